pub mod Times
pub mod Entries
