pub mod Declarations
pub mod Declarers
pub mod Primaries
pub mod Units
