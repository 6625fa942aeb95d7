pub mod Computed
pub mod Registers
pub mod Runs
pub mod Search
pub mod Spans
pub mod Writable
