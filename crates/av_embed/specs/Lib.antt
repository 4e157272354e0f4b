-- Embeddings of a word in a root.
pub mod Embed
pub mod Left
pub mod Laws
