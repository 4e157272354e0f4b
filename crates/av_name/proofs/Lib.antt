pub mod KnownPatterns
pub mod Growth
pub mod TurnedTests
pub mod AvoidedWords
