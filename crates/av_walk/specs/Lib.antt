-- The walk over the cells of a root, in which the terms of an equation are compared with its name.
pub mod Walk
pub mod Leaves
pub mod Numbers
pub mod Sifts
pub mod Paths
pub mod Looks
pub mod Ends
