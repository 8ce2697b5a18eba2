pub mod SortedSet
pub mod SetsByKey
pub mod Semantics
pub mod RowEdits
