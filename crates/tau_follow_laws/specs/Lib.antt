pub mod Fed
pub mod Following
pub mod Feeding
pub mod Histories
pub mod Laws
