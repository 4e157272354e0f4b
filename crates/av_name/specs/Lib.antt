-- The definitions of constraints on words.
pub mod Constraints
pub mod Laws
