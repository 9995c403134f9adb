pub mod Hex
pub mod Lines
pub mod Runs
pub mod Words
