-- The machine of commands: what they ask, when they are refused, what they put, and lists of them.
-- Its files cite one another, and those of Parts and Desks.
pub mod Map
pub mod Bookkeeping
pub mod Import
pub mod Act
pub mod Refusal
pub mod Row
pub mod Effect
pub mod Finding
pub mod Step
pub mod Run
pub mod Counting
pub mod Plan
