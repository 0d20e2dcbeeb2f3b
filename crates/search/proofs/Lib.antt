pub mod Queues
pub mod Rising
pub mod Tables
pub mod Turns
pub mod Visits
