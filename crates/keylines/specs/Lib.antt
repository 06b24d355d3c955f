-- Why there is no type; the parser's and the printer's answers, in keylist's terms.
pub mod Reasons
pub mod Answers
