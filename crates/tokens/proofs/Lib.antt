mod Digits
mod Scans
mod Split
