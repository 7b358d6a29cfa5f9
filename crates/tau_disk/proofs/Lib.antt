pub mod Passing
pub mod Tears
mod Left
mod LeftIn
pub mod Images
pub mod Replays
mod Kept
pub mod Places
pub mod Calls
pub mod Stages
pub mod Syncing
