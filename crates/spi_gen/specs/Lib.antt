pub mod Handshake
pub mod Sessions
