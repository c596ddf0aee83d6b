pub mod Looser
pub mod Evidence
pub mod ByKind
pub mod Acts
pub mod Effects
pub mod Edges
