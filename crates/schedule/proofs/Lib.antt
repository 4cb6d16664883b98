pub mod ScheduleLaws
pub mod CaseLaws
