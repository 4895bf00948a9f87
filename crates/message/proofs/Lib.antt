pub mod Placed
pub mod Sizes
pub mod Digits
pub mod Judged
pub mod Sets
pub mod Responding
