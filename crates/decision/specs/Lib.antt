pub mod ImageFacts
pub mod Small
pub mod Tests
