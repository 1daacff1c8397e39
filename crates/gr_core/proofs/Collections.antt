-- Lists and values that may be there, tables in memory, the finite maps that they make with rows put into them and
-- tested, and the orders of keys: for keys and rows of any kind.
-- Its files cite one another.
pub mod PresenceLemmas
pub mod ListLemmas
pub mod WalkLemmas
pub mod TextKeys
pub mod PairKeys
pub mod TableLemmas
pub mod TwoLevels
pub mod RowPutLemmas
pub mod RowChangedLemmas
pub mod RowsPutLemmas
pub mod RowsInOrderLemmas
pub mod EntryLemmas
pub mod CountLemmas
pub mod RowTestLemmas
pub mod NumberedRowLemmas
