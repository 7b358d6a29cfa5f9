pub mod Generated
pub mod Sums
