pub mod AccessorLaws
