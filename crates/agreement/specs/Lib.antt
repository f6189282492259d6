pub mod World
pub mod Demand
