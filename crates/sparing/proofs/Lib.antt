pub mod Entries
pub mod Layouts
pub mod Memory
pub mod Questions
