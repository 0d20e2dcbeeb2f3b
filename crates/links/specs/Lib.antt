pub mod Chains
pub mod Groups
pub mod Lists
