-- Laws that the proofs share, one for each way out of a function.
pub mod Marks
pub mod Turns
pub mod Plain
pub mod Walking
