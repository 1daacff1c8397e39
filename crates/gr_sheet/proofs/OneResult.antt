-- A state has one result of a closed resolution, by the findings that its election has.
use Rattle.std.proofs.Common.{◌≡◌, ℕ, true, List, Option, IsTrue, refl, sym, ap, ◌∙◌}
use Rattle.gr_count.specs.Election.{Election}
use Rattle.gr_count.specs.Findings.{Findings, AreFindings}
use Rattle.gr_core.specs.declared.resolution.Poll.{Poll}
use Rattle.gr_core.specs.declared.resolution.Resolution.{Resolution}
use Rattle.gr_core.specs.declared.resolution.Resolution.TheVariants.{Draft, Discussing, Voting, Closed, Cancelled}
use Rattle.gr_core.specs.Desks.Outcome.{election_at}
use Rattle.gr_core.specs.Parts.Resolution.{is_closed}
use Rattle.gr_core.specs.Desks.State.{State}
use Rattle.gr_sheet.specs.ResultSheet.{IsResult, IsResultOf, result_sheet}

-- an election has one set of findings at most
abbrev pub FindingsAreDetermined : Type 0
FindingsAreDetermined = (e : Election) (one other : Findings) → AreFindings e one → AreFindings e other → one ≡ other

-- and it has one: not each can be wrong
abbrev pub ElectionsHaveFindings : Type 0
ElectionsHaveFindings = (e : Election) → ¬ ((found : Findings) → ¬ (AreFindings e found))

module _ (s : State) (number : ℕ) where
  one_result : FindingsAreDetermined → (poll : Poll) (chosen : Option ℕ) (one other : List ℕ)
      → IsResult s number poll chosen one → IsResult s number poll chosen other → one ≡ other
  one_result same poll chosen one other (found, are, is) (others, also, told) =
      is ∙ ap (result_sheet s number poll chosen) (same (election_at s number poll) found others are also) ∙ sym told

  -- only a closed resolution has a result
  pub result_is_closed : (row : Resolution) (text : List ℕ) → IsResultOf s number row text → IsTrue (is_closed row)
  result_is_closed (Closed discussion poll chosen) text is = refl
  result_is_closed Draft text is = absurd is
  result_is_closed (Discussing discussion) text is = absurd is
  result_is_closed (Voting discussion poll) text is = absurd is
  result_is_closed (Cancelled discussion) text is = absurd is

  pub one_result_of : FindingsAreDetermined → (row : Resolution) (one other : List ℕ)
      → IsResultOf s number row one → IsResultOf s number row other → one ≡ other
  one_result_of same (Closed discussion poll chosen) one other is also = one_result same poll chosen one other is also
  one_result_of same Draft one other is also = absurd is
  one_result_of same (Discussing discussion) one other is also = absurd is
  one_result_of same (Voting discussion poll) one other is also = absurd is
  one_result_of same (Cancelled discussion) one other is also = absurd is

  -- and a closed one has one
  pub a_result_of : ElectionsHaveFindings → (row : Resolution) → is_closed row ≡ true → ¬ ((text : List ℕ) → ¬ (IsResultOf s number row text))
  a_result_of have (Closed discussion poll chosen) closed none =
      have (election_at s number poll) (λ found are. none (result_sheet s number poll chosen found) (found, are, refl))
  a_result_of have Draft closed none = absurd cc
  a_result_of have (Discussing discussion) closed none = absurd cc
  a_result_of have (Voting discussion poll) closed none = absurd cc
  a_result_of have (Cancelled discussion) closed none = absurd cc
