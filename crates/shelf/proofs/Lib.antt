pub mod Settled
pub mod Fits
pub mod Single
pub mod Shapes
pub mod Numbers
pub mod Answering
