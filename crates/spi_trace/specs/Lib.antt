pub mod Pairing
pub mod Laws
pub mod Next
pub mod Labels
pub mod Queue
