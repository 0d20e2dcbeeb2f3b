pub mod Kept
pub mod Stands
