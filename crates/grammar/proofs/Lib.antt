pub mod Heads
pub mod Exacts
pub mod Reading
pub mod Combine
pub mod RunExact
pub mod Standings
