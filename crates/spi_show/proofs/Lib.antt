pub mod Lines
pub mod Standings
pub mod Texts
pub mod Indexed
pub mod Passing
pub mod Shifts
