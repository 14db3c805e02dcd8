pub mod Tests
pub mod Words
pub mod Rest
pub mod Moves
