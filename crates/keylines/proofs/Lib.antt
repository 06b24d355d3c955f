-- Laws of the parser and the printer, one for each way out of a function; what the calls write together.
pub mod TextLaws
pub mod PairLaws
pub mod WordLaws
pub mod DecimalLaws
pub mod RowLaws
pub mod FirstLaws
pub mod CallLaws
