pub mod Given
pub mod Starts
pub mod Reading
pub mod Opened
pub mod Barrier
