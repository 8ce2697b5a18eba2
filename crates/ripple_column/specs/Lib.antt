pub use Rattle.column_rows.specs.Content
pub use Rattle.column_rows.specs.RangeCutsAsPivots
pub use Rattle.column_rows.specs.RangeAnswer
pub use Rattle.column_rows.specs.RangeEffects
pub use Rattle.column_rows.specs.ShownPivots
pub mod ColumnViewAndInvariant
