pub mod RegisterLists
pub mod RegisterArrays
pub mod RegisterNames
pub mod RegisterSets
pub mod RegisterDefinitions
pub mod RegisterLaws
pub mod MapLaws
