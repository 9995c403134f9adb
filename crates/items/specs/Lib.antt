pub mod Parts
pub mod Headers
pub mod Things
