pub mod Taken
pub mod Digits
pub mod Asked
pub mod Words
pub mod Rows
pub mod Nodes
