use Rattle.std.proofs.Common.{ℕ, ◌<◌}
use Rattle.gr_count.specs.Options.{Member, Related}
use Rattle.gr_count.proofs.schwartz.beats_its_beaters.Given as goal

-- the option beats each kept one so far that beats it
abbrev pub invariant-loop-other : goal.invariant-loop-other
invariant-loop-other l =
    (b : ℕ) → b < l.other → Member l.kept b → Related l.beats b l.option → Related l.beats l.option b
