-- Laws of passing over fields, of the splice, and of the calls.
pub mod SpliceLaws
pub mod PassLaws
pub mod SpanLaws
pub mod CallLaws
pub mod ValueLaws
pub mod EndLaws
pub mod SpanningLaws
pub mod FirstsLaws
pub mod StartingLaws
pub mod ListLaws
