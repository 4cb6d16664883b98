pub mod Accessors
pub mod Keys
