pub mod Calls
pub mod Held
pub mod Pairings
pub mod Same
pub mod Entries
pub mod Asked
