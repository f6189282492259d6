pub mod Seats
pub mod Cells
