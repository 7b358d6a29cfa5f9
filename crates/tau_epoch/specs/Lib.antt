pub mod Epochs
pub mod Known
pub mod Laws
