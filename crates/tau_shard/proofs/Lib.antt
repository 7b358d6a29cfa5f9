pub mod Bridge
pub mod Drops
pub mod Masks
pub mod Puts
pub mod Sweeps
pub mod Rows
pub mod Stands
pub mod At
