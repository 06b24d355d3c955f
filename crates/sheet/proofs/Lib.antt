-- What the proofs of several functions use.
mod EndLaws
mod TypeWalk
mod AdmitType
mod AltWalk
mod ValueWalk
mod AdmitValue
pub mod PickLaws
