-- What a reader's steps give.
pub mod Steps
