pub mod Worked
pub mod Beats
