pub mod Window
pub mod Absorb
