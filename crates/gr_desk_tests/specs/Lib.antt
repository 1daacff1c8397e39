-- What the tests' machines are, and what runs over them.
pub mod Hosts
pub mod Witness
