pub mod Tables
pub mod Joins
pub mod Runs
pub mod Searches
