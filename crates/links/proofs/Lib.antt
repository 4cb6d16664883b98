pub mod QubitLaws
pub mod LinkLaws
pub mod OtherLaws
pub mod EdgeLaws
pub mod EndLaws
pub mod JoinLaws
pub mod LinkingLaws
pub mod ResultLaws
