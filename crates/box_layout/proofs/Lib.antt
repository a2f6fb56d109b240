pub mod Alike
mod Apart
pub mod Backward
mod BelowSteps
mod BoxSteps
pub mod BoxesFit
pub mod BoxesNear
pub mod Chained
pub mod ChildFrames
pub mod ColumnAlike
pub mod Compared
pub mod Everywhere
mod Filled
pub mod FlexAlike
pub mod FlexAnswered
pub mod FlexFits
pub mod FlexNear
mod FoundBoxes
mod FoundRoots
mod FoundWalks
pub mod FrameWidths
pub mod Framed
pub mod FramesAnswered
pub mod GivenTracks
pub mod GridFits
pub mod GridFramed
pub mod GridNear
pub mod InPlaces
mod KeptPaths
mod KidFrames
mod KidLeaves
mod LastFrames
mod LaidWalks
mod LeafFrames
mod LeafSteps
mod LeafWalks
pub mod Lower
pub mod Named
pub mod Near
mod NearBoxes
pub mod OwnRows
pub mod OwnTracks
mod PlainLimits
pub mod Positions
pub mod Reaches
pub mod Rooms
mod RootBoxes
mod RootFits
mod RootFramed
mod RootNear
mod RootStyled
mod RootWalks
pub mod Rows
mod Seating
pub mod SharedRows
pub mod SharedSpans
pub mod Starts
pub mod Steps
pub mod Sums
pub mod TrackSizes
mod Unframed
pub mod Sinks
