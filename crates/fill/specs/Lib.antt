-- What the filling walk promises.
pub mod Fill
