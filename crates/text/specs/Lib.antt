-- What the contracts of the text leaves say beside the format's definitions.
pub mod Characters
pub mod Walk
pub mod Rows
