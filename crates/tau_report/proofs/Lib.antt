pub mod Vectors
pub mod Taken
pub mod KeptAcks
