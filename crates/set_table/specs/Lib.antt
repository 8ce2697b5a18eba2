pub mod PassTallies
pub mod LoggedStep
pub mod CellViewAndRuns
pub use Rattle.place_names.specs.Naming
pub mod Claiming
pub mod TableAndPassViews
pub mod TableAnswers
