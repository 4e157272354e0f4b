pub mod DemoWords
pub mod DemoGaps
pub mod DemoTexts
pub mod Digits
pub mod Cuts
pub mod Shorts
pub mod PatternWords
pub mod Kept
pub mod Reading
mod Worked
