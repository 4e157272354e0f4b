-- Overlays of two words, the basis of the union of two classes, and what the search for it keeps.
pub mod Union
pub mod Choices
pub mod Growth
pub mod Partials
pub mod Nodes
pub mod Gather
pub mod Laws
