pub mod Origins
pub mod Listing
pub mod Gathering
