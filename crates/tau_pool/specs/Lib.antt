pub mod Item
pub mod Items
pub mod Flat
pub mod Passing
pub mod First
pub mod Kept
pub mod Pooled
