-- Statistics are small, and items come one after another.
pub mod Listed
