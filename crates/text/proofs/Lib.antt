pub mod Writing
pub mod Pages
pub mod Decimals
pub mod Hexes
pub mod Copying
mod Examples
