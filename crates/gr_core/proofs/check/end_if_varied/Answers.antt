use Rattle.std.proofs.Common.{sym, ◌∙◌, rules}
use Rattle.gr_core.specs.Parts.Discussion.{IsTimely}
use Rattle.gr_core.specs.Machine.Act.{act_of}
use Rattle.gr_core.proofs.Contents.DiscussionEndLemmas.{timely_at}
use Rattle.gr_core.proofs.check.end_if_varied.Goals as goal

pub end-requires : goal.end-requires
end-requires c =
    let found = c.in_ok-discussion_at.field-0 in
    let timely : IsTimely found = timely_at c.args.tables.now c.requires.valid (act_of c.args.command.now) found
    (sym c.discussion_at.ensures ∙ c.in_ok-discussion_at.was) in
    record { start = timely.start; changed = timely.changed; shift = search rules }
