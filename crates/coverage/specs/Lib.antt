pub mod Entries
pub mod Axes
pub mod Kinds
pub mod Strips
pub mod Limits
pub mod Written
pub mod Between
