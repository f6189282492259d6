pub mod Same
mod Compare
mod Parts
pub mod Laws
pub mod Absorbing
mod Examples
