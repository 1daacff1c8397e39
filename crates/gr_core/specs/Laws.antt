-- What a reader expects of the machine, of resolutions, discussions and votes, and of what nothing reveals.
-- Its files cite one another, and those of Parts, Desks, Machine, InMemory and Columns.
pub mod MachineLaws
pub mod ResolutionLaws
pub mod Course
pub mod VotingLaws
pub mod Secrecy
pub mod VersionLaws
