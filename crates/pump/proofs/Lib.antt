mod Loops
pub mod Laws
pub mod Newest
pub mod Computing
mod Examples
