pub mod Collections
pub mod Contents
pub mod Columns
pub mod Effects
pub mod Validity
pub mod ResolutionLaws
pub mod VoteLaws
