pub mod Laws
pub mod Loops
mod Examples
