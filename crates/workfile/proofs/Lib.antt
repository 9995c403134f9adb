mod Steps
mod Unprinted
