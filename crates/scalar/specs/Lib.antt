-- The answers of the crate's calls in the format's terms, and what the functions on runs say.
pub mod Answers
pub mod Numbers
pub mod Runs
