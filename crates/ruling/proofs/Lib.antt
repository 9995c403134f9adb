pub mod Scans
pub mod Tables
pub mod Rulings
pub mod Unique
pub mod Exact
