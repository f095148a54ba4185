pub mod Forest
pub mod Grammar
pub mod Nodes
pub mod Trees
pub mod Derived
