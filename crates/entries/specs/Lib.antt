pub mod Lawful
pub mod Amounts
pub mod Sheet
pub mod Settles
pub mod Voids
pub mod Laws
