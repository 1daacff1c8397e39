-- What becomes of the connection of a line over files.
use Rattle.std.specs.Prelude.{◌≡◌, Option, None, Some, Result, Ok, Err}
use Rattle.sqlite_disk.specs.declared.Disk as disk
use Rattle.sqlite_disk.specs.declared.Files.{Files}
use Rattle.sqlite_store.specs.declared.store.FileStore.{FileStore}
use Rattle.gr_desk.specs.declared.ending.Ending.{Ending}
use Rattle.gr_desk.specs.declared.ending.Ending.TheVariants as ending
use Rattle.gr_desk.specs.declared.file.NotCopied.{NotCopied}
use Rattle.gr_desk.specs.Life.{AreLeftOf, IsLeftOver}
use Rattle.gr_desk.specs.Stops.{ClosedFilesHoldAPrefix, UnclosedStoreHoldsAPrefix}

-- one that is to be closed is closed, or its log could not be copied; and of no other one is any tried
abbrev pub IsEndedSo : {D : Type 0} {g : disk.Ghosts D} → Ending (FileStore D g)
    → Option (Result (Files D) (NotCopied D g))
    → Type 0
IsEndedSo (ending.Close conn) (Some (Ok files)) = ClosedFilesHoldAPrefix conn files × AreLeftOf conn files
IsEndedSo (ending.Close conn) (Some (Err not_copied)) =
    UnclosedStoreHoldsAPrefix conn not_copied.store × IsLeftOver conn not_copied.store
IsEndedSo (ending.Close conn) None = ⊥
IsEndedSo other closed = closed ≡ None
