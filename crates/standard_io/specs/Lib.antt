pub mod Printing
pub mod Files
pub mod Entries
