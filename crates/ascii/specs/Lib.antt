pub mod Ascii
pub mod Steps
