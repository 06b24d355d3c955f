-- Laws of the walkers.
pub mod AnswerLaws
pub mod PlaceLaws
pub mod LeafLaws
pub mod FieldLaws
pub mod ValueLaws
pub mod BlankLaws
pub mod KeyLaws
