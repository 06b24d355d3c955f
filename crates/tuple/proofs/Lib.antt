-- Laws of the exported calls.
pub mod Laws
pub mod Refusals
pub mod StepLaws
pub mod ListLaws
pub mod BeginningLaws
pub mod RangeLaws
pub mod ScrollLaws
