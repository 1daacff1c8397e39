-- When a database holds a desk: what its trees have, what its selects answer, and what is loaded of it.
-- Its files cite one another, and those of TableRows, Connections, Reading and Writing.
pub mod DeskTrees
pub mod TreesAndAnswers
pub mod HeldDesks
pub mod NoSuchDesk
pub mod TablesTaken
pub mod LoadedDesks
