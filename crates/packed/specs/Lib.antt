pub mod Refusals
pub mod ValueTypes
pub mod Switches
pub mod Tags
pub mod Fields
pub mod Reading
pub mod Layout
pub mod Listing
