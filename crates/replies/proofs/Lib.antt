pub mod RoundTrip
pub mod Stores
pub mod Sealed
