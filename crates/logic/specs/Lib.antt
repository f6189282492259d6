pub mod Test
pub mod Saturating
pub mod Range
pub mod Tabulate
pub mod Numbered
