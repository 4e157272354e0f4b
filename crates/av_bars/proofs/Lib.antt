-- Counts by value, lists of bars, and the laws of histograms and distributions.
pub mod BarLists
pub mod Counted
pub mod Histograms
pub mod Distributions
pub mod DistributionLaws
