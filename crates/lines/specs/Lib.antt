-- What the contracts of `lines` say of a count of elements.
pub mod Counts
