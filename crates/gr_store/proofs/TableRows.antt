-- The rows of tables: their fields, kinds, keys and orders, and the trees that hold them.
-- Its files cite one another.
pub mod EachTable
pub mod StateInTrees
pub mod RowColumns
pub mod RowKinds
pub mod ReplacedRows
pub mod AgreeingRows
pub mod TableKeys
pub mod MapInTree
pub mod ReorderedRows
pub mod FieldsReadBack
pub mod MapAnswers
