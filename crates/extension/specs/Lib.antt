pub mod Values
pub mod Extensions
