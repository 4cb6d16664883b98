pub mod WritingLaws
pub mod WriterLaws
