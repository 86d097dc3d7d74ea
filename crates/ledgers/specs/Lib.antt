pub mod Refusals
pub mod Table
pub mod Operator
pub mod Join
pub mod Lawfuls
pub mod Laws
