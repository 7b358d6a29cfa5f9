pub mod Fields
pub mod Parts
pub mod Rows
pub mod Gates
