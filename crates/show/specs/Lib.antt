-- What the contracts cite.
pub mod Wrote
