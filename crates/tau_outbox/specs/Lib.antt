pub mod Pieces
pub mod Gather
