pub mod Turns
pub mod Keeps
