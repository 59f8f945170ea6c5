pub mod Agenda
pub mod Canonical
pub mod Text
pub mod Uses
