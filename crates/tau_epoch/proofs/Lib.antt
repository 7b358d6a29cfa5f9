pub mod Meets
pub mod Least
pub mod Marks
