use Rattle.std.proofs.Common.{◌≡◌, ◌+◌, ◌≤◌, [], ◌∷◌, ◌++◌, map, ap, ◌∙◌, subst, inl, arith}
use Rattle.std.proofs.lemmas.List.{map-append}
use Rattle.gr_core.specs.declared.limits.TheConstants.{MAX_ACCEPTED}
use Rattle.gr_core.specs.declared.refusal.Refusal.TheVariants.{Full}
use Rattle.gr_core.specs.Machine.Act.{act_of}
use Rattle.gr_core.specs.Machine.Finding.{act_in}
use Rattle.gr_core.specs.declared.header.Header.{Header}
use Rattle.gr_core.specs.declared.change.Change.TheVariants as rust
use Rattle.gr_core.specs.Machine.Row.{HeaderOf, row_of, put_all}
use Rattle.gr_core.specs.Machine.Counting.{Counts}
use Rattle.gr_core.specs.Machine.Effect.{counted, note_of, puts_by, rows_by}
use Rattle.gr_core.proofs.Effects.PutAllLemmas.{put_all-rows_by}
use Rattle.gr_core.proofs.plan.Plan.of.Goals as goal

pub next-header-requires : goal.next-header-requires
next-header-requires c =
    let count : c.header.result.accepted ≡ c.args.tables.now.header.accepted = ap (λ header. header.accepted) c.header.ensures in
    let room : MAX_ACCEPTED ≤ c.args.tables.now.header.accepted → ⊥ = λ full. c.in_ok-finding.ensures.accepted Full (inl full) in
    omega arith

pub returns-clause-planned : goal.returns-clause-planned
returns-clause-planned c =
    let s = c.args.tables.now in
    let at = c.args.at in
    let act = act_of c.args.command.now in
    let next : Header → Header = λ h. record h { accepted = h.accepted + 1; clock = at } in
    let header : c.next-header.result ≡ (counted s at).header = c.next-header.ensures ∙ ap next c.header.ensures in
    let same : act_in c.in_ok-finding.finding ≡ act = c.in_ok-finding.ensures.act in
    let rows : map row_of c.push.new.self.items ≡ rows_by s at act =
    ap (map row_of) c.in_ok-push.ensures.items
    ∙ map-append row_of c.in_ok-changes.field-0.changes.items (rust.Header c.next-header.result ∷ [])
    ∙ ap (λ own. own ++ HeaderOf c.next-header.result ∷ []) (c.in_ok-changes.ensures.rows ∙ ap (puts_by s at) same)
    ∙ ap (λ h. puts_by s at act ++ HeaderOf h ∷ []) header
    in (
      c.in_ok-finding.ensures.accepted,
      (λ i. record { accepted = (header i).accepted; note = (c.in_ok-changes.ensures.note ∙ ap (note_of s at) same) i }),
      ap (put_all s) rows ∙ put_all-rows_by s at act c.in_ok-finding.ensures.accepted,
    )

pub returns-clause-counts : goal.returns-clause-counts
returns-clause-counts c =
    let s = c.args.tables.now in
    let at = c.args.at in
    subst (λ act. Counts s at act c.in_ok-changes.field-0.counting) c.in_ok-finding.ensures.act c.in_ok-changes.ensures.counts
