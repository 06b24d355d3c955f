-- What the contracts cite beside the calls of format.
pub mod Records
pub mod Passing
pub mod Keys
pub mod Spanning
pub mod Firsts
pub mod Starting
pub mod Lists
