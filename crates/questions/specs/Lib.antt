pub mod Asked
pub mod Links
pub mod Linking
pub mod Stands
