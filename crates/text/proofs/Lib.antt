pub mod Digits
pub mod Utf8Tests
pub mod Bounds
pub mod Units
pub mod FloatIndices
pub mod DigitIndices
