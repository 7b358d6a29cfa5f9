pub mod Continues
pub mod Laws
pub mod Marked
