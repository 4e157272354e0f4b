pub mod Levels
pub mod Gaps
pub mod Searches
pub mod LeftPlaces
pub mod Insertions
pub mod Extensions
pub mod Gathering
