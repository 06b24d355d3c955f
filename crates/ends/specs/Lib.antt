-- What the contracts cite.
pub mod Ends
