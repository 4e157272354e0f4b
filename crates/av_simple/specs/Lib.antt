pub mod Searched
pub mod Extension
