-- What a connection is left with: after one step and another, and after a text that is one statement or a select.
-- Its files cite one another, and those of TableRows.
pub mod StepsInTurn
pub mod PutsInTurn
pub mod SelectRuns
pub mod SingleStatements
pub mod RowByRow
