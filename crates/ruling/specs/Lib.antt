pub mod Cases
pub mod Rule
pub mod Table
pub mod Answers
pub mod Law
