mod BoxFrames
pub mod Containers
mod KidFrames
pub mod LeafEvents
pub mod Listed
pub mod Once
pub mod Pigeons
pub mod Spreads
