pub mod Refusals
pub mod First
pub mod Blank
pub mod Bounds
pub mod Kinds
pub mod Signed
