-- Laws of whole values: measuring, filling, and the calls.
pub mod TopLaws
pub mod FillLaws
