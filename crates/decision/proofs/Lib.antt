pub mod AlgorithmLaws
pub mod IndexLaws
