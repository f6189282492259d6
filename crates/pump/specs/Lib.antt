pub mod Numbers
pub mod Pump
