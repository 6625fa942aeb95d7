pub mod Bits
pub mod Limits
