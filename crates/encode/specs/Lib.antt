pub mod Over
pub mod Der
