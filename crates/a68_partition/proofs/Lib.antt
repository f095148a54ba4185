pub mod Ending
pub mod Sets
pub mod Numbering
pub mod Measure
pub mod RowKeys
pub mod Stable
pub mod Splitting
