pub mod Host
pub mod Scopes
pub mod Gathering
pub mod TableMeaning
pub mod NameMeaning
pub mod ByFields
pub mod Shown
