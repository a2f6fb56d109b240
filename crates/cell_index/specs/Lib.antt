pub mod Rising
pub mod Taken
pub mod Held
pub mod Passed
pub mod Cells
