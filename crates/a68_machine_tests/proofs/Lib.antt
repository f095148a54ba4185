mod Held
mod Resting
