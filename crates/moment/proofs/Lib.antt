pub mod Fitting
pub mod Reading
pub mod Writing
pub mod Spelling
pub mod Inverses
pub mod Orders
pub mod Refusals
pub mod Laws
