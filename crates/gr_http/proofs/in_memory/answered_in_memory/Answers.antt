-- A request in memory, a `Vec` and an office in memory say what they hold.
use Rattle.std.proofs.Common.{◌≡◌, ℕ, List, [], Option, Some, None, refl, ap, subst}
use Rattle.std.specs.Prelude.{IfSome}
use Rattle.std.specs.Io.KnownBytes.{Appends}
use Rattle.std.proofs.lemmas.Result.{IfOk-weaker}
use Rattle.gr_core.specs.Desks.State.{State}
use Rattle.gr_http.specs.Response.{Response}
use Rattle.gr_http.specs.Answer.{Responds}
use Rattle.gr_http.specs.Reads.{Reads}
use Rattle.gr_http.proofs.in_memory.answered_in_memory.Goals as goal

responded : (coming old new : Option (List ℕ)) (request bytes items : List ℕ) (desk : Option State) (s : State) (at : ℕ) (response : Response)
    (after : Option State) → coming ≡ Some request → old ≡ Some [] → new ≡ Some items → desk ≡ Some s
    → Appends old new bytes → IfSome coming (λ came. Responds desk at came response after)
    → (items ≡ bytes) × Responds (Some s) at request response after
responded coming old new request bytes items desk s at response after is_coming is_old is_new is_desk appends responds = (
  subst (λ o. Appends o (Some items) bytes) is_old (subst (λ n. Appends old n bytes) is_new appends),
  subst (λ d. Responds d at request response after) is_desk
      (subst (λ c. IfSome c (λ came. Responds desk at came response after)) is_coming responds),
)

-- where nothing was read before, the calls are all that there are
told : (new : Option (List (List ℕ))) (Are : List (List ℕ) → Type 0) → Reads (Some []) new Are
    → (calls : List (List ℕ)) × (new ≡ Some calls) × Are calls
told None Are reads = absurd reads
told (Some new) Are (calls, is, are) = (calls, ap Some is, are)

all_told : (old new : Option (List (List ℕ))) (Are : List (List ℕ) → Type 0) → old ≡ Some [] → Reads old new Are
    → (calls : List (List ℕ)) × (new ≡ Some calls) × Are calls
all_told old new Are fresh reads = told new Are (subst (λ o. Reads o new Are) fresh reads)

pub returns-clause-served : goal.returns-clause-served
returns-clause-served c =
    IfOk-weaker c.answer-served.result _ _
    (λ served (response, status, appends, exchange).
    let (items, responds) = responded _ (Some c.new-output.result.writer.items)
    (Some c.answer-served.new.output.writer.items) c.args.request.now _ c.into_inner.result.items _ _ c.args.at response _
    c.in_ok-input.ensures.coming (rw (c.new-output.ensures.writer) (ap Some c.new-3.ensures.items))
    (rw (c.into_inner.ensures) refl) c.in_ok-office.ensures.desk appends exchange.0 in
    (response, status, items, responds))
    c.answer-served.ensures.served

pub returns-clause-needed : goal.returns-clause-needed
returns-clause-needed c = all_told _ _ _ c.in_ok-input.ensures.taken c.answer-served.ensures.needed
