-- What the program does on the machine.
use Rattle.std.proofs.Common.{◌≡◌, ℕ, Bool, List, None, Option, Result, Some, subst}
use Rattle.sqlite_disk.specs.declared.Disk as disk
use Rattle.sqlite_disk.specs.declared.Files.{Files}
use Rattle.sqlite_store.specs.declared.store.FileStore.{FileStore}
use Rattle.sqlite_trees.specs.declared.store.Store.{Ghosts}
use Rattle.sqlite.specs.Files.{IsBlankAs, over_files}
use Rattle.sqlite.specs.Held.{Held, state}
use Rattle.sqlite.specs.State.{HasCleanDisk}
use Rattle.sqlite_wal.specs.Recovery.{Image}
use Rattle.gr_desk.specs.declared.ending.Ending.{Ending}
use Rattle.gr_desk.specs.declared.file.NotCopied.{NotCopied}
use Rattle.gr_desk.specs.Connections.{Refusals}
use Rattle.gr_desk.specs.Ended.{IsEndedSo}
use Rattle.gr_desk.specs.Host.{HasSumsAsAsked, Known}
use Rattle.gr_desk.specs.Program.{RunsOn}
use Rattle.gr_desk.specs.System.{RunsOnMachine, machine_with, waiting}

-- so it is of what is done over a host that knows this of the machine, with streams that know these bytes
pub on_machine : {D : Type 0} {g : disk.Ghosts D} (contents : Image) (known after : Known) (Refused : Refusals)
    (words : List (List ℕ)) (IsMoment : ℕ → Type 0) (coming remaining old held new : Option (List ℕ)) (status : ℕ)
    (said : Option (List ℕ))
    (left : Ending (FileStore D g)) (closed : Option (Result (Files D) (NotCopied D g))) → known ≡ machine_with contents
    → coming ≡ remaining → old ≡ held
    → RunsOn over_files known after Refused None None words IsMoment coming old new status said left → IsEndedSo left closed
    → RunsOnMachine g contents Refused words IsMoment remaining held status
on_machine contents known after Refused words IsMoment coming remaining old held new status said left closed same comes stood does ended =
    let at_host = subst (λ k. RunsOn over_files k after Refused None None words IsMoment coming old new status said left) same does in
    let with_input = subst (λ i. RunsOn over_files (machine_with contents) after Refused None None words IsMoment i old new status said left)
    comes at_host in
    let all = subst (λ o. RunsOn over_files (machine_with contents) after Refused None None words IsMoment remaining o new status said left)
    stood with_input in
    (after, new, said, left, closed, all, ended)

-- a connection has sums as it was asked for over the contents that waited to be opened
pub asked_sums : {S T : Type 0} (g : Ghosts S) (contents : Image) (has_sums : Bool) (conn : Held S) (start : T) (waits : Option T)
    → Some start ≡ waits
    → (HasCleanDisk (state g conn) → IsBlankAs has_sums contents → (g.view conn.store).has_sums ≡ has_sums)
    → HasSumsAsAsked g has_sums (waiting contents waits) conn
asked_sums g contents has_sums conn start waits is sums = subst (λ o. HasSumsAsAsked g has_sums (waiting contents o) conn) is sums
