pub mod CrackedEnds
pub mod RowBag
pub mod PartedRows
pub mod PivotList
