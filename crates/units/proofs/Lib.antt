pub mod Ring
pub mod Totals
pub mod Floors
pub mod Tabulate
pub mod Firsts
pub mod Rows
pub mod Fits
pub mod FixedLists
