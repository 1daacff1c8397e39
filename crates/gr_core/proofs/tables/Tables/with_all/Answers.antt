use Rattle.std.proofs.Common.{ap, sym, ◌∙◌}
use Rattle.gr_core.specs.Machine.Row.{row_of, put}
use Rattle.gr_core.proofs.Effects.PutAllLemmas.{put_all-one_more}
use Rattle.gr_core.proofs.tables.Tables.with_all.Goals as goal

pub loop-change-preserved : goal.loop-change-preserved
loop-change-preserved c =
    c.in_ok-put.ensures.ok
    ∙ ap (λ s. put s (row_of c.in-Some.change)) c.loop-change.invariant
    ∙ sym (put_all-one_more c.args.self c.loop-change.yielded c.in-Some.change)
