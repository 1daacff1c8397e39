use Rattle.std.proofs.Common.{◌≡◌, [], ◌∷◌, ◌++◌, map, sym, ap, ◌∙◌, ◌+◌}
use Rattle.std.specs.FinMap.{get}
use Rattle.gr_core.specs.Parts.Ballot.{received_of}
use Rattle.gr_core.specs.declared.change.Change.{Change}
use Rattle.gr_core.specs.declared.change.Change.TheVariants as rust
use Rattle.gr_core.specs.Machine.Row.{BallotOf, row_of}
use Rattle.gr_core.proofs.Effects.PutLemmas.{vote_puts}
use Rattle.gr_core.proofs.plan.voting.vote.Goals as goal

pub returns-clause-rows : goal.returns-clause-rows
returns-clause-rows c = λ s at text says stood.
    let resolution = c.args.found.now.resolution in
    let login = c.args.found.now.login.now in
    let received : c.earlier_received-received.result ≡ received_of (get s.ballots (resolution, login)) =
    c.earlier_received-received.ensures ∙ ap received_of stood in
    let ballot : Change = rust.Ballot resolution c.in_ok-from_str.field-0
    (record { ranks = c.args.found.now.ranks; receipt = c.in_ok-receipt.receipt; received = c.earlier_received-received.result + 1 }) in
    ap (map row_of) c.in_ok-push.ensures.items
    ∙ ap (λ items. map row_of (items ++ ballot ∷ [])) c.new-changes.ensures.items
    ∙ (λ i. BallotOf (resolution, c.in_ok-from_str.ensures.ok i)
    (record { ranks = sym says i; receipt = c.in_ok-receipt.ensures i; received = received i + 1 }) ∷ [])
    ∙ sym (vote_puts s at resolution login text c.args.found.now.token.now)
