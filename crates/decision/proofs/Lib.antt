pub mod Blaming
pub mod Halving
pub mod Looked
pub mod Outcome
pub mod Padding
pub mod Runs
