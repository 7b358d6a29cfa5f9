pub mod Peeker
