-- What a migration of a desk of version 1 makes and answers.
-- Its files cite one another, and those of TableRows, Connections, Reading, Writing, StoredDesks and Failures.
pub mod BallotTurns
pub mod MigratedDesks
pub mod DeskVersions
pub mod StoppedMigrations
