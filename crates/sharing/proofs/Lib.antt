pub mod OddCents
pub mod Shared
pub mod Weighed
