pub mod Wrote
pub mod Text
pub mod Systems
pub mod Laws
