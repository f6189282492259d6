pub mod Runner
pub mod Script
