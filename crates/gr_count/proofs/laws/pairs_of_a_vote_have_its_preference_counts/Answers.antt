use Rattle.std.proofs.Common.{◌-◌}
use Rattle.gr_count.specs.Shown.{options_of_pairs, ratio_at}
use Rattle.gr_count.proofs.laws.pairs_of_a_vote_have_its_preference_counts.Goals as goal

pub returns : goal.returns
returns c = λ pairs vote developers ratios tally i. record {
  default = options_of_pairs pairs - 1;
  preference = λ a b. tally.counts a b i;
  developers = developers;
  ratio = ratio_at ratios;
}
