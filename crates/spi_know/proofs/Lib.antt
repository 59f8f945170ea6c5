pub mod Closing
pub mod Local
pub mod Certs
pub mod Sending
pub mod Clausal
pub mod Saturated
pub mod Certified
pub mod Starting
