pub mod Flags
pub mod Lengths
pub mod Numbers
pub mod Splits
