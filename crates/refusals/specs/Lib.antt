pub mod Refusals
pub mod Shows
