pub mod ChainLaws
pub mod DescentLaws
pub mod LinkedNets
pub mod BuiltChains
pub mod BenchCases
