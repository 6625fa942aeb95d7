pub mod Columns
pub mod Text
