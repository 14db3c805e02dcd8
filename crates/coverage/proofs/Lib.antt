pub mod Bools
pub mod Points
pub mod Numbers
pub mod Caps
pub mod Turns
pub mod Standing
pub mod Bounds
pub mod Products
