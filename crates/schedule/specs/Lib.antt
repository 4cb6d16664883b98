pub mod Schedule
pub mod Cases
