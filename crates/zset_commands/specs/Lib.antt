pub mod AbstractCommand
pub mod MeaningOfForm
pub mod CommandGrammar
pub mod ReadingMatchesGrammar
pub mod RequestLimits
pub mod Refusal
