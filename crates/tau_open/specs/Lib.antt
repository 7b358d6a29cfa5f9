pub mod Outside
pub mod Opening
pub mod Creating
pub mod Reopening
