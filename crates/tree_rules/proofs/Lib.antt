pub mod KeptLists
pub mod Lengths
pub mod Moved
pub mod Pairs
pub mod SameTrees
pub mod Sorted
pub mod StableSort
pub mod Told
