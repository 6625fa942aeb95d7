pub mod Framing
pub mod Steps
