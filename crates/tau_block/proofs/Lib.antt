pub mod Blocks
pub mod Walks
