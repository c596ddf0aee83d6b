pub mod Layouts
pub mod Steps
pub mod NodesRead
pub mod Listings
