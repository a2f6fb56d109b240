mod NodeAnswers
pub mod AskMembers
mod Blocks
mod Fitting
pub mod FlexLeading
mod FlexMade
mod Joined
mod KeptGrids
mod KnownAlong
mod KnownRows
mod Laid
pub mod Leading
pub mod Mains
mod Open
mod Outers
mod OwnColumns
mod PlainChildren
mod PlainSubgrids
pub mod ReadBases
pub mod RowAxes
mod Same
mod Seams
pub mod Seen
mod SeenAlike
pub mod Settled
mod SharedTracks
pub mod ToldRows
mod Turns
mod Widths
mod HeldLines
pub mod HeldWide
