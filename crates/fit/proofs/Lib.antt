-- Laws that the proofs of the measuring walk cite.
pub mod Leaves
pub mod Steps
pub mod Optional
pub mod Rows
