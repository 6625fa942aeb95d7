pub mod Agrees
pub mod Calls
pub mod Reads
pub mod Frame
pub mod Framings
pub mod Refusals
pub mod Technicians
pub mod Ports
