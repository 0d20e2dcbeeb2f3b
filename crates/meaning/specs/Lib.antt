pub mod Answers
pub mod Columns
pub mod Fillings
pub mod Theorems
