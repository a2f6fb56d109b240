pub mod Kept
pub mod Lines
pub mod Stream
pub mod Tokens
