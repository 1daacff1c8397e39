mod TableRows
pub mod Connections
pub mod Reading
mod Writing
pub mod StoredDesks
mod Failures
pub mod Migration
