pub mod Classes
pub mod Distances
pub mod Marking
pub mod Names
pub mod Unlike
