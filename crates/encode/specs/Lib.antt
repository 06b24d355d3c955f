-- What the encoding calls promise.
pub mod Encoded
