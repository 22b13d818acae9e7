pub mod Fields
pub mod Rolls
pub mod Contents
