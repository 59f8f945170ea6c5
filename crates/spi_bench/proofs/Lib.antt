mod Named
mod Wholes
pub mod Counted
pub mod Totals
pub mod Placing
pub mod Verdicts
pub mod Judged
