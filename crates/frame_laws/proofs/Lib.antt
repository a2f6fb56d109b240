pub mod Agreeing
pub mod Registered
pub mod Numbering
pub mod Fonts
pub mod Marked
pub mod Named
pub mod Pages
pub mod Untouched
