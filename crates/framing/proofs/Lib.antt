pub mod Carried
pub mod RoundTrip
pub mod Sealed
