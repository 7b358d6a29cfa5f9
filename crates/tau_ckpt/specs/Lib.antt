pub mod Slot
pub mod Writing
pub mod Chosen
