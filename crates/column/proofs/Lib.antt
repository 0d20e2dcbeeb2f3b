pub mod Noting
pub mod Parts
pub mod Seeing
