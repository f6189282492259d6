pub mod Cells
pub mod Judging
pub mod LastAgreed
