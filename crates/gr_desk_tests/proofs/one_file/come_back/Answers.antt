use Rattle.gr_desk_tests.proofs.HostLemmas.{both_clean, left_after}
use Rattle.gr_desk_tests.proofs.one_file.come_back.Goals as goal

pub returns-then-not-still_answer : goal.returns-then-not-still_answer
returns-then-not-still_answer g c =
    let files = c.give_up-files.result in
    let left = c.give_up-files.ensures (both_clean _ _ (g.met.D.Truthful.told_no_lie files.log) (g.met.D.Truthful.told_no_lie files.db)) in
    left.1 _ (c.still_answer.ensures.outcomes _ (c.crash.ensures.left, c.crash-then-not-still_answer.ensures.left))

pub returns-else-not-still_answer : goal.returns-else-not-still_answer
returns-else-not-still_answer g c =
    let files = c.give_up-files.result in
    let left = c.give_up-files.ensures (both_clean _ _ (g.met.D.Truthful.told_no_lie files.log) (g.met.D.Truthful.told_no_lie files.db)) in
    left_after _ _ _ _ c.still_answer.ensures.same left.0
