pub mod Sondes
pub mod Invariant
pub mod Calls
pub mod Writes
pub mod Frames
pub mod Cuts
pub mod Theorem
pub mod Ports
