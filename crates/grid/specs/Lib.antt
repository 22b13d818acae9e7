pub mod References
pub mod Views
pub mod Checks
