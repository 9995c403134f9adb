-- SHA-256 and HMAC of lists of octets, in the order of FIPS 180-4 and FIPS 198-1; then what the incremental form holds.
pub mod Sha256
pub mod Hmac
pub mod Holds
