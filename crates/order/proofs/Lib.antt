-- Laws of the comparing walk.
pub mod Steps
pub mod Verdict
