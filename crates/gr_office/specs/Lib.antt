-- The definitions that the contracts cite.
pub mod Fault
pub mod Office
pub mod Crash
pub mod History
pub mod NotOpened
