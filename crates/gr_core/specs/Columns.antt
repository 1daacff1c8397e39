-- The columns of the rows that a store keeps.
-- Its files cite one another, and those of Parts, Desks, Machine and InMemory.
pub mod Fields
pub mod Stored
pub mod Intake
pub mod Rows1
