-- What the contracts of the block leaves say.
pub mod Zeros
pub mod Ascii
pub mod Compare
pub mod Scan
