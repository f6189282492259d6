mod Facts
mod Grow
mod Submit
mod Judge
mod Step
mod Deliver
mod Pump
mod Run
pub mod Theorem
mod Runs
