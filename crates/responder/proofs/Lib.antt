pub mod RunLaws
pub mod AlgorithmLaws
pub mod DigestLaws
pub mod MeasurementsLaws
pub mod KnownLaws
pub mod Carries
