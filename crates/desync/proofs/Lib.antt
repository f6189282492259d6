pub mod Loops
pub mod Laws
mod Examples
