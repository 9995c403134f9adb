pub mod Lengths
pub mod Built
pub mod Timed
pub mod Entered
