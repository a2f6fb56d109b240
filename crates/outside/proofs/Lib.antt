pub mod Laws
pub mod Fronts
pub mod Retrying
