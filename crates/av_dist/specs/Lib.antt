-- The definitions of distributions: the statistics of a kind, what an inflation adds to them, distributions over words, rows of
-- numbers by value, the statistics of the words of a node, and what tables hold.
pub mod Kinds
pub mod Crossing
pub mod Distributions
pub mod Rows
pub mod Totals
pub mod Tables
pub mod Laws
