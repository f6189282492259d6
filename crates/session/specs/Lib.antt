pub mod Session
pub mod Numbers
pub mod Host
pub mod Step
