-- Causes of faults, numbered calls, bytes that are passed on, and what the types in memory are seen as.
pub mod Causes
pub mod Calls
pub mod Passed
pub mod Mem
