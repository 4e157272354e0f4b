-- Places, what the search for an occurrence keeps, and the first word of a list that is contained.
pub mod Places
pub mod Search
pub mod Narrow
pub mod FirstBad
