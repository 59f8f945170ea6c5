pub mod Reading
pub mod Freed
pub mod Told
pub mod OneAnswer
