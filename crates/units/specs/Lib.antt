pub mod Sums
pub mod Floor
pub mod Amounts
pub mod Refusals
pub mod Rows
pub mod FixedLists
pub mod Laws
