pub mod True
pub mod Laws
