-- The answers of the crate's calls, in the format's terms.
pub mod Answers
