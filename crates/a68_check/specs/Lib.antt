pub mod Annotates
