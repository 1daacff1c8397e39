-- What a desk knows, what is counted of a resolution, and which states a desk may have.
-- Its files cite one another, and those of Parts.
pub mod State
pub mod Outcome
pub mod Valid
pub mod Rules
pub mod Version1
