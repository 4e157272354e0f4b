pub mod Written
pub mod WaitingTexts
pub mod TreeTexts
pub mod SystemTexts
pub mod UniqueReading
pub mod ReadWords
pub mod ReadSystems
pub mod Tokens
pub mod NumberTokens
pub mod WordTokens
pub mod QueryTexts
mod Worked
