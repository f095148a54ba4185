pub mod Beginning
pub mod Descending
pub mod Fitting
pub mod Ones
pub mod Ordering
pub mod Preceding
pub mod Walking
