pub mod Measurable
pub mod Sizable
