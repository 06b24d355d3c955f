-- What the contracts of `skip` cite besides the format.
pub mod Tokens
