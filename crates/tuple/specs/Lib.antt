-- The numbers of each answer, and what the exported calls promise.
pub mod Numbers
pub mod StepNumbers
pub mod Lists
pub mod Ranges
pub mod Scrolling
