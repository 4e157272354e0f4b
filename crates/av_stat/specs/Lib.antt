-- What the closures of statistics return, and the words of a lister.
pub mod Listed
