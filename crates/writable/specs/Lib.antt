pub mod Sizes
pub mod Extensions
pub mod Entries
