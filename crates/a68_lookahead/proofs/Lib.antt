pub mod Firsts
pub mod Looking
pub mod Told
