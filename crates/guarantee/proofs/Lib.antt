pub mod Nets
pub mod NetRuns
pub mod CountLaws
pub mod LinkViews
pub mod GrownViews
pub mod AcceptedNets
pub mod RecordTakes
pub mod DemandLaws
