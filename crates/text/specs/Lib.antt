pub mod Utf8Test
pub mod Numbers
pub mod BigInts
pub mod CodeUnits
pub mod Indices
