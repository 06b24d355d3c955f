-- What the comparing walk promises.
pub mod Compare
