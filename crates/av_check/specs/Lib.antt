-- Claims, the verdict on a claimed system, and its laws.
pub mod Verdicts
pub mod Laws
pub mod Checks
pub mod Outcomes
pub mod Ends
pub mod Claims
pub mod Reading
pub mod ClaimLaws
