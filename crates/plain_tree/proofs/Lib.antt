pub mod Laws
pub mod PathLaws
