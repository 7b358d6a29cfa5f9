pub mod Writers
pub mod Spacing
pub mod Telling
pub mod Ends
pub mod Closing
pub mod Threads
pub mod Laws
