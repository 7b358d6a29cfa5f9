mod Catalogues
pub mod Heads
pub mod Tears
pub mod Left
pub mod Parts
