-- Laws that the proofs share.
pub mod Spans
pub mod Put
pub mod Counts
pub mod Orders
pub mod Folds
pub mod Scans
pub mod Moves
