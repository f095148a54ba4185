pub mod Callers
pub mod Cutting
pub mod Popping
pub mod Returning
pub mod Topmost
pub mod Tops
