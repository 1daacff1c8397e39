use Rattle.gr_desk.proofs.WordLemmas.{is_false}
use Rattle.gr_desk.proofs.words.matches_of.Goals as goal

pub returns-in-Err-clause-wrong : goal.returns-in-Err-clause-wrong
returns-in-Err-clause-wrong c wrong = is_false _ (λ taken. c.of.ensures.wrong wrong (c.in-Err.ensures.passes taken))
