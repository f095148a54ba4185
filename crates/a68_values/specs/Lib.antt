pub mod Codes
pub mod Content
pub mod Logs
pub mod Longs
pub mod Nodes
pub mod PartsFall
