-- What a desk keeps in memory: its tables, and the preference counts beside them.
-- Its files cite one another, and those of Parts, Desks and Machine.
pub mod Table
pub mod Tables
pub mod Sponsors
pub mod Ballots
pub mod Replaced
pub mod KeptPairs
