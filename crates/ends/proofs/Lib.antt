-- Laws.
pub mod TrimLaws
