pub mod Formulas
pub mod Inner
pub mod Lacking
pub mod Shapes
