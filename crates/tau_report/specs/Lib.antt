pub mod Lines
pub mod Report
pub mod Recovery
pub mod KeptAcks
pub mod KeptFate
