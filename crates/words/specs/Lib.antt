pub mod Bytes
pub mod Digits
pub mod Mask
pub mod Overlay
