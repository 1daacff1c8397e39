-- The lemmas that proofs share.
pub mod ActLemmas
pub mod BesideLemmas
pub mod CrashLemmas
pub mod ErrorLemmas
pub mod HistoryLemmas
pub mod MigrationLemmas
pub mod OpenLemmas
pub mod PutLemmas
pub mod RunLemmas
