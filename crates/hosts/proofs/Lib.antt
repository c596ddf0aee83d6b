pub mod Records
pub mod Gatherings
pub mod Naming
pub mod Makings
