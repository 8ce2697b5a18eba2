pub mod Blocks
pub mod PartMoves
pub mod PartChanges
pub mod PivotOrder
