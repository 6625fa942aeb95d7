pub mod Setups
pub mod Changed
