-- The definitions that the contracts cite.
pub mod Date
pub mod RollSheet
pub mod Ballot
pub mod StatusSheet
pub mod TallySheet
pub mod ResultSheet
pub mod Sheet
pub mod Laws
