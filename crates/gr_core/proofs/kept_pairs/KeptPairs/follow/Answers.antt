use Rattle.std.proofs.Common.{◌≤◌, Ok, Err, Result, refl, sym, ap, ◌∙◌, subst}
use Rattle.std.specs.Prelude.{OnOk}
use Rattle.gr_count.specs.declared.limits.TheConstants.{MAX_OPTIONS, MIN_OPTIONS}
use Rattle.gr_core.specs.Desks.Outcome.{place_count}
use Rattle.gr_core.specs.InMemory.KeptPairs.{IsCountedBehind}
use Rattle.gr_core.proofs.Validity.KeptPairsLemmas.{left_behind, few_places_then, enough_places_then, begun_behind, may_replace_then, replaced_behind}
use Rattle.gr_core.proofs.kept_pairs.KeptPairs.follow.Goals as goal

-- what follows from what holds on success
on_ok : {T E P Q R : Type 0} (result : Result T E) → (P → Q → R) → OnOk result P → OnOk result Q → OnOk result R
on_ok (Ok done) follows one other = follows one other
on_ok (Err error) follows one other = tt

pub returns-in-Nothing : goal.returns-in-Nothing
returns-in-Nothing c =
    let kept = c.args.self.now in
    let t = c.args.tables.now in
    left_behind kept t (subst (λ counting. IsCountedBehind kept counting t) c.in-Nothing.is c.requires)

pub new-pairs-requires-clause-few : goal.new-pairs-requires-clause-few
new-pairs-requires-clause-few c =
    let kept = c.args.self.now in
    let t = c.args.tables.now in
    let resolution = c.in-Begins.resolution in
    subst (λ n. n ≤ MAX_OPTIONS) (sym (c.place_count.ensures ∙ ap (λ choices. place_count choices resolution) c.choices.ensures))
    (few_places_then kept t resolution (subst (λ counting. IsCountedBehind kept counting t) c.in-Begins.is c.requires))

pub new-pairs-requires-clause-enough : goal.new-pairs-requires-clause-enough
new-pairs-requires-clause-enough c =
    let kept = c.args.self.now in
    let t = c.args.tables.now in
    let resolution = c.in-Begins.resolution in
    subst (λ n. MIN_OPTIONS ≤ n) (sym (c.place_count.ensures ∙ ap (λ choices. place_count choices resolution) c.choices.ensures))
    (enough_places_then kept t resolution (subst (λ counting. IsCountedBehind kept counting t) c.in-Begins.is c.requires))

pub returns-in-Begins : goal.returns-in-Begins
returns-in-Begins c =
    let kept = c.args.self.now in
    let t = c.args.tables.now in
    let resolution = c.in-Begins.resolution in
    on_ok c.put.result
    (begun_behind kept t resolution (subst (λ counting. IsCountedBehind kept counting t) c.in-Begins.is c.requires)
    (record { pairs = c.new-pairs.result; received = 0 })
    (c.new-pairs.ensures.options ∙ c.place_count.ensures ∙ ap (λ choices. place_count choices resolution) c.choices.ensures)
    c.new-pairs.ensures.vote refl c.put.new.self)
    c.put.ensures.kept c.put.ensures.others

pub replace-requires : goal.replace-requires
replace-requires c =
    let kept = c.args.self.now in
    let t = c.args.tables.now in
    may_replace_then kept t c.in-Replaces.resolution c.in-Replaces.earlier c.in-Replaces.ranks
    (subst (λ counting. IsCountedBehind kept counting t) c.in-Replaces.is c.requires) c.votes_hold_their_ballots.ensures.held

pub returns-in-Replaces : goal.returns-in-Replaces
returns-in-Replaces c =
    let kept = c.args.self.now in
    let t = c.args.tables.now in
    replaced_behind kept t c.in-Replaces.resolution c.in-Replaces.earlier c.in-Replaces.ranks
    (subst (λ counting. IsCountedBehind kept counting t) c.in-Replaces.is c.requires) c.replace.new.self c.replace.ensures.replaced
    c.replace.ensures.others
