pub mod Profile
pub mod Law
pub mod Listed
