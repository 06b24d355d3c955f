-- Laws of the writing walk.
pub mod Stores
pub mod Groups
pub mod Steps
