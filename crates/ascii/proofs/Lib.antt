pub mod Inverse
pub mod Judging
pub mod Reading
pub mod RoundTrip
pub mod Stores
pub mod Tables
