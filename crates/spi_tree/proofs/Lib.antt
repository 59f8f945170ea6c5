pub mod Listed
pub mod Rows
pub mod Joined
pub mod Same
