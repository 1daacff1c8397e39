-- How many developers the roll has, by the entries of the table.
use Rattle.std.proofs.Common.{◌≡◌, map, length, String, sym, ap, ◌∙◌}
use Rattle.std.specs.declared.alloc.Global.{Global}
use Rattle.std.specs.BTreeMap.{BTreeMap}
use Rattle.std.specs.FinMap.{len, entries, len-entries}
use Rattle.std.proofs.lemmas.List.{length-map}
use Rattle.gr_core.specs.declared.developer.Developer.{Developer}
use Rattle.gr_core.specs.InMemory.Tables.{developer_entry}
use Rattle.gr_core.specs.Desks.State.{State}

pub len-map : (s : State) (m : BTreeMap (String Global) Developer) → map developer_entry m.entries ≡ entries s.developers → length m.entries ≡ len s.developers
len-map s m same = sym (length-map m.entries developer_entry) ∙ ap length same ∙ sym (len-entries s.developers)
