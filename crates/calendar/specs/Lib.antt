pub mod Last
pub mod Dates
pub mod Moments
pub mod Law
