pub mod Goes
pub mod Restored
pub mod Held
pub mod Later
