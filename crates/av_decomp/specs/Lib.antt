-- The definitions of blocks, shapes and decomposition trees.
pub mod Blocks
pub mod Shapes
pub mod RootTrees
pub mod Trees
pub mod Laws
