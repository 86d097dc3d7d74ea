pub mod Prices
pub mod Kept
pub mod Opened
pub mod Lawful
pub mod Telling
pub mod Noting
pub mod Playing
