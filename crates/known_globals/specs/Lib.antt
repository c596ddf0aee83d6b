pub mod Identifiers
pub mod Constructors
pub mod Properties
