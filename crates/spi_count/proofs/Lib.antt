pub mod Standing
pub mod Summed
pub mod Read
pub mod Kept
pub mod Merging
pub mod Below
pub mod Waiting
pub mod Piled
