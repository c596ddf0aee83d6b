pub mod Ascent
pub mod Listed
