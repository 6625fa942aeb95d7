pub mod Model
pub mod Runs
pub mod Accepted
pub mod Agreement
pub mod Ports
