-- Laws of text, and what the proofs share.
pub mod Ranges
pub mod Chars
pub mod Fronts
pub mod Leads
pub mod Texts
pub mod RowLaws
pub mod Specimens
