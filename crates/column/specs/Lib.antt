pub mod Naming
pub mod Sights
