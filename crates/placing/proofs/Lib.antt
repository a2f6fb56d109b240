pub mod Alike
pub mod Bares
mod Counted
pub mod Each
pub mod Entries
pub mod Filled
pub mod Founds
pub mod Full
pub mod Glances
pub mod KeptTrees
mod LastFrames
pub mod LastMembers
pub mod Leaves
pub mod Loans
pub mod Mapped
pub mod Named
pub mod Numbers
pub mod Open
pub mod Parents
pub mod Pasts
pub mod Puts
pub mod Readable
mod Seams
pub mod Seated
pub mod Siblings
pub mod Sights
pub mod Spans
pub mod Spliced
pub mod Stale
pub mod Tellings
mod Tracks
pub mod Uncut
pub mod Walks
pub mod Whole
mod Written
