pub mod Fields
pub mod Map
