pub mod Apart
pub mod Forward
pub mod Decimals
pub mod Spelt
pub mod Texts
pub mod Begins
pub mod Marks
