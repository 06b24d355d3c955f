-- Laws that the proofs share.
pub mod ReadSteps
pub mod WriteSteps
