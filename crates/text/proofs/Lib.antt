-- What the proofs of `text` share. Assumes nothing.
pub mod Found
pub mod Decoded
