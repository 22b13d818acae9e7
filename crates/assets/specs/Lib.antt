pub mod Assets
pub mod Laws
pub mod Views
pub mod Sides
pub mod Estimates
