pub mod Entries
pub mod Lines
pub mod Queues
pub mod Reached
pub mod Slots
pub mod Tables
pub mod Walks
pub mod Waves
