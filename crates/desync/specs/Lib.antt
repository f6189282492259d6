pub mod Report
pub mod Json
pub mod Asked
pub mod Numbers
