pub mod EmbeddingList
pub mod Points
pub mod Begun
pub mod Steps
pub mod EmbeddingLaw
pub mod FibreSteps
mod Worked
