pub mod Ends
pub mod Links
pub mod Signs
pub mod Views
pub mod Carries
pub mod Sums
