pub mod Overs
pub mod Ders
