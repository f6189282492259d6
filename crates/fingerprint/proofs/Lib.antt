pub mod Laws
pub mod Highest
mod Examples
