use Rattle.std.proofs.Common.{sym, ◌∙◌}
use Rattle.gr_core.specs.Machine.Act.{act_of}
use Rattle.gr_core.proofs.Contents.DiscussionEndLemmas.{timely_at}
use Rattle.gr_core.proofs.check.end_at.Goals as goal

pub end-requires : goal.end-requires
end-requires c =
    timely_at c.args.tables.now c.requires (act_of c.args.command.now) c.in_ok-discussion.discussion
    (sym c.discussion_at.ensures ∙ c.in_ok-discussion.was)
