use Rattle.std.proofs.Common.{◌≡◌, false, true, subst, inl, inr, IsTrue}
use Rattle.gr_store.specs.Schema.{is_occupied}
use Rattle.sqlite.proofs.Callers.{memory_is_clean}
use Rattle.gr_desk.proofs.file.new_in_memory.Goals as goal

pub returns-in-Ok-clause-new : goal.returns-in-Ok-clause-new
returns-in-Ok-clause-new c =
    c.in-Ok.ensures.new (memory_is_clean c.in-Ok.office.conn) c.in_ok-conn.ensures.empty.0.is_open

-- an empty schema has none of the names
pub returns-in-Err-clause-faults : goal.returns-in-Err-clause-faults
returns-in-Err-clause-faults c = elim c.in-Err.ensures.failed.can [
  | inl can ↦ can
  | inr taken ↦ absurd (
      let never : false ≡ true
      = subst (λ schema. IsTrue (is_occupied schema)) c.in_ok-conn.ensures.empty.2 taken.1 in cc)
]
