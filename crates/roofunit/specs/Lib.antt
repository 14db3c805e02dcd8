pub mod Faults
pub mod Picture
pub mod Replies
pub mod Answers
