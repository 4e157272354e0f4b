pub mod Begun
pub mod Completed
pub mod Gathered
pub mod Missed
pub mod Narrowing
pub mod Spreads
