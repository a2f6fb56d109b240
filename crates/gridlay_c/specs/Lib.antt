pub mod Answers
pub mod Numbers
pub mod Owned
pub mod Program
pub mod Rooms
pub mod Slots
pub mod Told
