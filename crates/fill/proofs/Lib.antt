-- Laws of the filling walk: what stands at a place, by its first byte; numbers and runs; the values that are no groups; fields and groups; whole keys.
pub mod PlaceLaws
pub mod NumberLaws
pub mod RunLaws
pub mod LeafLaws
pub mod RowLaws
pub mod TopLaws
