use Rattle.std.proofs.Common.{◌-◌, ap}
use Rattle.gr_count.specs.Shown.{ratio_at}
use Rattle.gr_count.proofs.PairwiseCounts.{same_tally}
use Rattle.gr_count.proofs.laws.order_of_ballots_is_free.Goals as goal

pub returns-clause-tally : goal.returns-clause-tally
returns-clause-tally c = same_tally

pub returns-clause-election : goal.returns-clause-election
returns-clause-election c = λ one other developers ratios same i. record {
  default = ap (λ n. n - 1) same.options i;
  preference = λ a b. same.counts a b i;
  developers = developers;
  ratio = ratio_at ratios;
}
