use Rattle.std.proofs.Common.{sym, ◌∙◌}
use Rattle.gr_core.specs.Machine.Act.{act_of}
use Rattle.gr_core.proofs.Contents.PollEndLemmas.{timely_poll_at}
use Rattle.gr_core.proofs.check.voting.end_of_voting_at.Goals as goal

pub end_of_voting-requires-clause-called : goal.end_of_voting-requires-clause-called
end_of_voting-requires-clause-called c =
    (timely_poll_at c.args.tables.now c.requires (act_of c.args.command.now) c.in_ok-poll.poll
    (sym c.poll_held_at.ensures ∙ c.in_ok-poll.was)).called

pub end_of_voting-requires-clause-days : goal.end_of_voting-requires-clause-days
end_of_voting-requires-clause-days c =
    (timely_poll_at c.args.tables.now c.requires (act_of c.args.command.now) c.in_ok-poll.poll
    (sym c.poll_held_at.ensures ∙ c.in_ok-poll.was)).days
