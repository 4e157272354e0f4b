pub mod Border
pub mod Choices
pub mod Members
pub mod NodeForms
pub mod Filled
pub mod Linked
pub mod Sums
pub mod ClassMembers
