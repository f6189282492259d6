pub mod Ascii
pub mod Text
pub mod Pages
pub mod Decimal
pub mod Hex
