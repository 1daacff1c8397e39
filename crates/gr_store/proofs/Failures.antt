-- Why a text was not run, and which cause each fault of the store has.
-- Its files cite one another, and those of TableRows, Connections, Reading, Writing and StoredDesks.
pub mod FailedTexts
pub mod UnreadTables
pub mod StoreFaults
