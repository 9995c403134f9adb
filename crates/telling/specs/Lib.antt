pub mod Reasons
pub mod Roles
pub mod Tells
