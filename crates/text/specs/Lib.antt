-- The definitions that the contracts of `text` cite. Assumes nothing.
pub mod Text
pub mod Hex
pub mod Tally
