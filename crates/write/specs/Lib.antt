-- What the writing walk promises.
pub mod Write
