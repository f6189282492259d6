pub mod Front
mod Numbers
mod Examples
