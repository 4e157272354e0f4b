pub mod TestedRoots
pub mod Taken
