-- What the texts that write mean and do: those that make a table, put a row, or take all rows out.
-- Its files cite one another, and those of TableRows, Connections and Reading.
pub mod LoneTables
pub mod GrownSchema
pub mod CompiledCreates
pub mod CreateLemmas
pub mod CreateTexts
pub mod InsertLemmas
pub mod CompiledInserts
pub mod ReplaceLemmas
pub mod UpsertLemmas
pub mod DeleteLemmas
pub mod PutTexts
pub mod BallotPutText
