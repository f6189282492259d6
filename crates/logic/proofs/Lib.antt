pub mod Cases
pub mod Fronts
pub mod Products
pub mod Tabulated
pub mod Sums
