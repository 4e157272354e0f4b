-- What a script is, and what it says or why it is refused.
pub mod Steps
pub mod Kinds
pub mod Lines
pub mod Numerals
pub mod Words
pub mod Queries
pub mod Read
pub mod Heard
pub mod Ranges
pub mod Results
pub mod Demo
