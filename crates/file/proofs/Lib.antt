pub mod BoolLaws
pub mod PutLaws
pub mod PairLaws
pub mod RecordLaws
pub mod TightLaws
