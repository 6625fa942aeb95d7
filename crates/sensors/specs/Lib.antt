pub mod Changes
pub mod Sensors
