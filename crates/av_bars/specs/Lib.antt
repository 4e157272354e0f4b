-- Histograms and distributions of lists of words.
pub mod Histograms
pub mod Distributions
pub mod Laws
