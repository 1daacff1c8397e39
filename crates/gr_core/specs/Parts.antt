-- What the parts of a desk are: what is well formed, the keys of the tables, and the rows under them.
-- Its files cite one another.
pub mod Limits
pub mod Moment
pub mod Login
pub mod Text
pub mod Token
pub mod Key
pub mod Header
pub mod Discussion
pub mod Developer
pub mod Resolution
pub mod Choice
pub mod Sponsor
pub mod Receipt
pub mod Ballot
