pub mod Chain
pub mod Descents
pub mod Chains
pub mod BenchTable
