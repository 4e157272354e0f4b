-- Lemmas by topic, those that others cite first.
pub mod ListSteps
pub mod Places
pub mod WithoutPlaces
pub mod Covers
pub mod Unions
pub mod LeavingPlaces
pub mod ChoiceLists
pub mod InsertedEntries
pub mod RisingPlaces
pub mod WordsAfter
pub mod GrownEntries
pub mod Growth
pub mod GrownWords
pub mod Nodes
pub mod Sought
pub mod Kept
