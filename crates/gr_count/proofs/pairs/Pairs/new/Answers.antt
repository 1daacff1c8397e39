use Rattle.std.proofs.Common.{sym, ◌∙◌}
use Rattle.gr_count.proofs.Votes.{preference_count-empty, voters-empty}
use Rattle.gr_count.proofs.pairs.Pairs.new.Goals as goal

pub returns-clause-vote : goal.returns-clause-vote
returns-clause-vote c = record {
  ballots = sym voters-empty;
  counts = λ a b. c.zero.ensures a b ∙ sym (preference_count-empty a b);
}
