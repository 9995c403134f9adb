pub mod Said
pub mod Values
