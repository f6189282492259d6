pub mod Wants
pub mod Ahead
