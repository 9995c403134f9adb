pub mod Onwards
pub mod Walks
