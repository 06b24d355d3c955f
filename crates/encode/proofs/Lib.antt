-- Laws that the proofs of the encoding calls cite.
mod Keys
mod Outcomes
