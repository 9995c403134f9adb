-- SHA-256 up to the compression of one block, in the order of FIPS 180-4.
pub mod Words
pub mod Constants
pub mod Block
pub mod Windows
