-- A place among the tied is one of several in the outcome set.
use Rattle.std.proofs.Common.{◌≡◌, ℕ, ◌<◌, ◌≤◌, Bool, true, false, length, IsTrue, ◌-◌, refl, inl, inr, arith}
use Rattle.std.proofs.lemmas.List.Sums.{length-filter}
use Rattle.gr_count.specs.Election.{Election, IsKept}
use Rattle.gr_count.specs.Findings.{Findings, AreFindings}
use Rattle.gr_count.specs.Options.{options_below, size_below}
use Rattle.gr_count.proofs.Finite.{size_below-some, size_below-one}
use Rattle.gr_core.specs.declared.resolution.Poll.{Poll}
use Rattle.gr_core.specs.Desks.Outcome.{place_count, option_at, election_at, HasWinner, IsAmongTheTied}
use Rattle.gr_core.specs.Desks.State.{State}
use Rattle.gr_core.proofs.Contents.StableLemmas.{lt_or_ge}
use Rattle.gr_sheet.specs.ResultSheet.{members_of}
use Rattle.gr_sheet.specs.Laws.{IsOneOfSeveral}

-- what a test does not deny, it tells
told : (b : Bool) → ¬ (¬ (b ≡ true)) → b ≡ true
told true h = refl
told false h = absurd (h (λ e. let never : false ≡ true = e in cc))

-- a kept option is the default one or before it
kept_below : (e : Election) (a : ℕ) → IsKept e a → a ≤ e.default
kept_below e a (inl last) = omega arith
kept_below e a (inr before) = let below = before.0 in omega arith

module _ (s : State) (number : ℕ) (poll : Poll) (found : Findings) (are : AreFindings (election_at s number poll) found) where
  -- a set with one member has a winner
  winner_of_one : (a : ℕ) → a < place_count s.choices number → IsTrue (found.outcome a)
      → size_below (place_count s.choices number) found.outcome ≡ 1 → HasWinner (election_at s number poll)
  winner_of_one a inside member one = record {
    winner = a;
    member = (are.outcome a).0 member;
    sole = λ other is.
        let before : other ≤ place_count s.choices number - 1 = kept_below (election_at s number poll) other is.member.kept in
        size_below-one (place_count s.choices number) found.outcome one other a (omega arith) inside ((are.outcome other).1 is) member;
  }

  pub one_of_several : (place : ℕ) → IsAmongTheTied s number poll place → IsOneOfSeveral s number found place
  one_of_several place tied =
      let places = place_count s.choices number in
      let option = option_at place in
      let inside : option < places = omega (arith, tied.place) in
      let member : IsTrue (found.outcome option) = told (found.outcome option)
      (λ no. tied.member (λ is. no ((are.outcome option).1 is))) in
      let size = length-filter found.outcome (options_below places) in
      let some : 0 < size_below places found.outcome = size_below-some places found.outcome option inside member in
      record {
        place = tied.place;
        member = member;
        several = elim (lt_or_ge 1 (size_below places found.outcome)) as (λ _. 1 < length (members_of found.outcome places)) [
          | inl more ↦ omega (arith, size)
          | inr most ↦ absurd (tied.tie (winner_of_one option inside member (omega arith)))
        ];
      }
