pub mod Faults
pub mod Sentences
pub mod Meaning
pub mod Laws
