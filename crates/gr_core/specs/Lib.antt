pub mod Parts
pub mod Desks
pub mod Machine
pub mod InMemory
pub mod Columns
pub mod Laws
