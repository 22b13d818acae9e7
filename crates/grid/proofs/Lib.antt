pub mod Chains
pub mod References
pub mod Places
