-- The definitions of constraints, names and systems, of derivation trees, and of what it means that a system describes a
-- class.
pub mod Names
pub mod Terms
pub mod Trees
pub mod TreeLists
pub mod Exact
pub mod Laws
