pub mod Sames
pub mod Sets
pub mod Reaches
pub mod Forgets
pub mod Once
pub mod OneWay
pub mod Distinct
