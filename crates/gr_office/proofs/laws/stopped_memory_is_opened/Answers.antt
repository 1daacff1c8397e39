use Rattle.std.proofs.Common.{◌∙◌, refl, sym, ap}
use Rattle.sqlite.proofs.Callers.{memory_is_clean}
use Rattle.sqlite_trees.specs.Memory.{memory_view}
use Rattle.gr_office.proofs.laws.stopped_memory_is_opened.Goals as goal

-- the store was rolled back
pub over-requires : goal.over-requires
over-requires c clean =
    let undone = c.into_store-store.ensures.undone in
    let kept = undone.kept clean in
    record {
      sound = (undone.undone refl).1;
      numbered = c.into_store-store.ensures.numbered clean;
      clean = (undone.undone refl).0 ∙ sym (kept.committed refl);
      unmarked = kept.marks refl;
    }

pub returns-in-Ok-clause-opens : goal.returns-in-Ok-clause-opens
returns-in-Ok-clause-opens c =
    let clean = memory_is_clean c.in-Ok.conn in (clean, (c.in-Ok.ensures.opens clean).0)

pub returns-in-Ok-clause-left : goal.returns-in-Ok-clause-left
returns-in-Ok-clause-left c s first attempts is made = record {
  first = first;
  last = c.args.office;
  from_state = is;
  made = made;
  clean = memory_is_clean c.args.office.conn;
  left = c.in-Ok.ensures.trees (memory_is_clean c.in-Ok.conn) ∙ (c.into_store-store.ensures.undone.undone refl).0
      ∙ ap (λ held. (memory_view held.store).committed) c.close.ensures.same;
}
