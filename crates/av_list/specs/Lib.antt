-- The items of a lister and the steps of a sieve; and how a lister works: vertices of trees in preorder, what is due after
-- them, and what is left of the list of trees.
pub mod Items
pub mod Sieving
pub mod Sizes
pub mod Vertices
pub mod Remaining
pub mod Words
pub mod Derivations
pub mod Progress
pub mod Picked
pub mod Listing
