-- What the columns of rows say, and that rows tell one state.
-- Its files cite one another, and those of Collections and Contents.
pub mod RanksLemmas
pub mod ReceiptLemmas
pub mod RowLikeness
pub mod FieldLemmas
pub mod StoredLemmas
pub mod FitLemmas
pub mod SameRowsLemmas
pub mod Rows1Lemmas
pub mod IntakeLemmas
