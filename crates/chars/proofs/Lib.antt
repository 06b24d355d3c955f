-- Laws of a step, one for each way out; a run beside its payload; the reader beside get_str.
pub mod StepLaws
pub mod FrontLaws
pub mod NameLaws
pub mod ScrollLaws
pub mod NameExamples
