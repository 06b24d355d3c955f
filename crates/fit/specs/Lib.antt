-- What the measuring walk promises.
pub mod Fit
