-- The definitions of counts, of the choices that they count, of the lists of subtrees, of the links of children, and of what
-- a table holds.
pub mod Counts
pub mod Choices
pub mod Members
pub mod Links
pub mod Tables
pub mod Laws
