pub mod Reached
pub mod Cert
pub mod Sent
pub mod Numbered
pub mod Spelled
pub mod Knowledge
