-- What a count finds of an election: one thing, and something.
use Rattle.std.proofs.Common.{◌≡◌, ℕ, suc}
use Rattle.std.proofs.lemmas.Bool.Decides.{same_from_decides}
use Rattle.gr_count.specs.Threshold.{meets_quorum, meets_majority}
use Rattle.gr_count.specs.Election.{Election, IsKept}
use Rattle.gr_count.specs.Rounds.{IsNumberOfRounds, IsDroppedIn, IsInOutcome}
use Rattle.gr_count.specs.Findings.{Findings, AreFindings}
use Rattle.gr_count.proofs.Decided.{IsDecided, test_of, test_of-is, all_decided, triples_decided}
use Rattle.gr_count.proofs.RoundsEnd.{kept_below, has_number_of_rounds, dropped_below}
use Rattle.gr_count.proofs.Standings.{one_number}

module _ (e : Election) where
  -- two of the same election are the same
  pub same_findings : (one other : Findings) → AreFindings e one → AreFindings e other → one ≡ other
  same_findings one other first second = λ i. record {
    quorum = λ a. same_from_decides (one.quorum a) (other.quorum a) (first.quorum a) (second.quorum a) i;
    majority = λ a. same_from_decides (one.majority a) (other.majority a) (first.majority a) (second.majority a) i;
    kept = λ a. same_from_decides (one.kept a) (other.kept a) (first.kept a) (second.kept a) i;
    rounds = one_number e one.rounds other.rounds first.rounds second.rounds i;
    dropped = λ round a b.
        same_from_decides (one.dropped round a b) (other.dropped round a b) (first.dropped round a b) (second.dropped round a b) i;
    outcome = λ a. same_from_decides (one.outcome a) (other.outcome a) (first.outcome a) (second.outcome a) i;
  }

  module _ (rounds : ℕ) (number : IsNumberOfRounds e rounds) (kept_decided : (a : ℕ) → IsDecided (IsKept e a))
      (dropped_decided : (round a b : ℕ) → IsDecided (IsDroppedIn e round a b)) (outcome_decided : (a : ℕ) → IsDecided (IsInOutcome e a)) where
    -- the findings where all is decided
    abbrev findings : Findings
    findings = record {
      quorum = λ a. meets_quorum (e.preference a e.default) e.developers;
      majority = λ a. meets_majority (e.preference a e.default) (e.preference e.default a) (e.ratio a);
      kept = λ a. test_of (IsKept e a) (kept_decided a);
      rounds = rounds;
      dropped = λ round a b. test_of (IsDroppedIn e round a b) (dropped_decided round a b);
      outcome = λ a. test_of (IsInOutcome e a) (outcome_decided a);
    }

    are_findings : AreFindings e findings
    are_findings = record {
      quorum = λ a. (λ is. is, λ has. has);
      majority = λ a. (λ is. is, λ has. has);
      kept = λ a. test_of-is (IsKept e a) (kept_decided a);
      rounds = number;
      dropped = λ round a b. test_of-is (IsDroppedIn e round a b) (dropped_decided round a b);
      outcome = λ a. test_of-is (IsInOutcome e a) (outcome_decided a);
    }

  -- and not each can be wrong
  pub has_findings : ¬ ((found : Findings) → ¬ (AreFindings e found))
  has_findings = λ wrong.
      has_number_of_rounds e (λ some.
      all_decided (suc e.default) (IsKept e) (kept_below e) (λ kept_decided.
      triples_decided (suc some.0) (suc e.default) (IsDroppedIn e) (dropped_below e some.0 some.1) (λ dropped_decided.
      all_decided (suc e.default) (IsInOutcome e) (λ a outcome. kept_below e a outcome.member.kept) (λ outcome_decided.
      wrong (findings some.0 some.1 kept_decided dropped_decided outcome_decided)
      (are_findings some.0 some.1 kept_decided dropped_decided outcome_decided)))))
