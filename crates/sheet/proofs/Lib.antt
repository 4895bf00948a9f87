pub mod Cuts
pub mod Fields
pub mod Positions
pub mod Spaced
pub mod Writing
