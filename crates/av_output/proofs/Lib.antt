pub mod LineBytes
pub mod HeaderTexts
pub mod PatternNames
pub mod Outputs
