pub mod Changes
pub mod Turning
pub mod Steps
pub mod Journals
pub mod Rests
pub mod Laws
pub mod Examples
