mod Numerals
pub mod Cuts
mod Points
mod Grammar
mod BoundGrammar
