pub mod Local
pub mod Marks
