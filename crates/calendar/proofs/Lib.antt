pub mod Lasts
pub mod Years
pub mod Days
pub mod Clocks
pub mod Laws
