pub mod Blocks
pub mod Plain
pub mod Present
pub mod Read
pub mod Stands
pub mod Shard
