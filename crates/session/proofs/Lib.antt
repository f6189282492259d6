pub mod Calls
pub mod Computing
pub mod Cases
pub mod Laws
mod Examples
