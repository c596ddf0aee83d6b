pub mod Choices
pub mod HostReports
pub mod Hooks
