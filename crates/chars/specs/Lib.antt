-- What the contracts cite beside the reader's definitions in format, and what is claimed of the reader beside get_str.
pub mod Reader
pub mod Names
pub mod Scrolling
