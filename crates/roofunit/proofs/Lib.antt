pub mod Looks
pub mod Leads
