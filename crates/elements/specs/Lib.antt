pub mod Runs
pub mod Names
