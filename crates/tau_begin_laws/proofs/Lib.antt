pub mod Catalogues
pub mod Empty
pub mod Ends
pub mod Images
pub mod Starting
