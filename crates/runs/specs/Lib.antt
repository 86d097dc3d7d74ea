pub mod Runs
pub mod Plays
