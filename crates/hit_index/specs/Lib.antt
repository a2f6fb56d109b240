pub mod Hits
pub mod Strips
pub mod Columns
pub mod BoxList
pub mod Extents
pub mod Index
