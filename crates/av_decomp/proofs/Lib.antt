pub mod SpanNumbers
pub mod TiledWords
pub mod SimpleRoots
pub mod TwoParts
pub mod Decompositions
pub mod DecompositionTrees
pub mod FormedTrees
mod Worked
