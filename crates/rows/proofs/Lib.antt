mod Loops
pub mod Laws
mod Examples
mod Unmapped
