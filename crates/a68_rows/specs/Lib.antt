pub mod Subscripts
