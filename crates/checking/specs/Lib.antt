pub mod Told
pub mod Expects
pub mod Rules
pub mod Trees
pub mod Reach
pub mod Keeps
