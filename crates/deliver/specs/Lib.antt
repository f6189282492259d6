pub mod Numbers
pub mod Deliver
