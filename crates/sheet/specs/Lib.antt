pub mod Text
pub mod Lines
pub mod Words
pub mod Numeral
pub mod Line
pub mod Written
