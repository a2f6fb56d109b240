pub mod AsBox
pub mod Filled
pub mod Program
