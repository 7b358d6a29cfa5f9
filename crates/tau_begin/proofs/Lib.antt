pub mod Giving
pub mod Starting
pub mod Ending
pub mod Beginning
pub mod Slices
pub mod Opened
pub mod Reading
pub mod Barrier
