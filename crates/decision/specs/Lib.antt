pub mod Citations
pub mod Looks
pub mod Trials
