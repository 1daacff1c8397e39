-- What the texts that read mean and answer, from their columns and the order of their rows to the six selects.
-- Its files cite one another, and those of TableRows and Connections.
pub mod SortedLists
pub mod ColumnQueries
pub mod ResolvedSelects
pub mod WrittenSelects
pub mod NamedColumns
pub mod CompiledSelects
pub mod SelectTexts
pub mod SelectAnswers
pub mod TableSelects
pub mod StepLimits
pub mod RightTables
