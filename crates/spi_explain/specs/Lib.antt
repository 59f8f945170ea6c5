pub mod Premises
pub mod Findings
