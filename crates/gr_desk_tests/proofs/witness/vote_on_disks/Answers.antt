use Rattle.std.proofs.Common.{Some, subst}
use Rattle.std.specs.Prelude.{IfOk}
use Rattle.gr_desk_tests.specs.Witness.{ShowsTheVote}
use Rattle.gr_desk_tests.proofs.witness.vote_on_disks.Goals as goal

pub returns : goal.returns
returns g c =
    subst (λ bytes. IfOk c.vote_over_a_stop.result (λ found. ShowsTheVote (Some bytes) found.further found.sheet.items)) c.as_bytes.ensures.value
    c.vote_over_a_stop.ensures
