-- The files of the machine, and what the program does there.
use Rattle.std.specs.Prelude.{ℕ, List, Option, None, Some, Result}
use Rattle.sqlite_disk.specs.declared.Disk as disk
use Rattle.sqlite_disk.specs.declared.Files.{Files}
use Rattle.sqlite_store.specs.declared.store.FileStore.{FileStore}
use Rattle.sqlite.specs.Files.{over_files}
use Rattle.sqlite_wal.specs.Recovery.{Image}
use Rattle.gr_desk.specs.declared.ending.Ending.{Ending}
use Rattle.gr_desk.specs.declared.file.NotCopied.{NotCopied}
use Rattle.gr_desk.specs.Connections.{Refusals}
use Rattle.gr_desk.specs.Ended.{IsEndedSo}
use Rattle.gr_desk.specs.Host.{Content, Bytes, Known, nothing_known}
use Rattle.gr_desk.specs.Program.{RunsOn}

-- what a file with these contents has until it is opened
abbrev pub waiting : {S : Type 0} → Image → Option S → Option Content
waiting contents None = None
waiting contents (Some start) = Some (Bytes contents)

-- what is known of the machine: what the one file has that is opened; nothing else
abbrev pub machine : Option Content → Known
machine content = record nothing_known { content = λ _. content }

-- before that is opened
abbrev pub machine_with : Image → Known
machine_with contents = machine (Some (Bytes contents))

-- What the program does on the machine, whose file has these contents until it is opened: what the words ask for, with
-- these bytes to come, these written before, and some written then, and something said on error output or nothing. The
-- connection that is left of its line, if one is, is closed where it is to be.
abbrev pub RunsOnMachine : {D : Type 0} (g : disk.Ghosts D) → Image → Refusals → List (List ℕ) → (ℕ → Type 0)
    → Option (List ℕ) → Option (List ℕ) → ℕ → Type 0
RunsOnMachine {D} g contents Refused words IsMoment coming old status =
    (after : Known) × (new : Option (List ℕ)) × (said : Option (List ℕ)) × (left : Ending (FileStore D g))
    × (closed : Option (Result (Files D) (NotCopied D g)))
    × RunsOn over_files (machine_with contents) after Refused None None words IsMoment coming old new status said left
    × IsEndedSo left closed
