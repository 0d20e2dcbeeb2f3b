pub mod Fewest
pub mod Lists
pub mod Lows
pub mod Reach
pub mod Roots
