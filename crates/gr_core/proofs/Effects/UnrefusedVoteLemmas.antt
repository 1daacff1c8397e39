-- Votes and casting votes that nothing stands against are accepted.
use Rattle.std.proofs.Common.{◌≡◌, ◌≤◌, ◌⊎◌, inl, inr, None, IsSomeAnd, sym, ap, ◌∙◌, arith}
use Rattle.std.specs.Prelude.{IsFalse, IsSome, IsTrue, option_and_then}
use Rattle.std.specs.FinMap.{get}
use Rattle.gr_core.specs.declared.resolution.Resolution.TheVariants.{Voting, Closed}
use Rattle.gr_core.specs.declared.developer.Standing.TheVariants.{Retired}
use Rattle.gr_core.specs.declared.refusal.Refusal.TheVariants.{BadMoment, ClockBack, BadLogin, BadText, BadRatio, BadDays, BadToken, Full, NoResolution, NoChoice, WrongStage, Ended, TooEarly, NoDeveloper, NotCurrent, Lapsed, Already, NotSponsor, HasProposer, NoProposer, EndsTooSoon, BadRanks, NotTied, BadRoll, NotRevealed}
use Rattle.gr_core.specs.Parts.Resolution.{present_poll, end_of_voting, is_closed, is_voting, chosen_of, poll_of}
use Rattle.gr_core.specs.Desks.Outcome.{IsPlace, CannotBeChosen}
use Rattle.gr_core.specs.Laws.VotingLaws.{VotesInTimeAreAccepted, CastingVotesAmongTheTiedAreAccepted}
use Rattle.gr_core.proofs.Collections.PresenceLemmas.{not_None, of_value}

-- neither of two things that never are
neither : ⊥ ⊎ ⊥ → ⊥
neither (inl never) = never
neither (inr never) = never

-- a vote of a developer who can vote
pub votes_accepted : VotesInTimeAreAccepted
votes_accepted s at number login ranks token valid due can BadMoment h = h due.moment
votes_accepted s at number login ranks token valid due can ClockBack h =
    let clock = due.clock in omega arith
votes_accepted s at number login ranks token valid due can BadLogin h =
    h (valid.tables.developers login can.developer can.on_roll).named
votes_accepted s at number login ranks token valid due can BadText h = neither h
votes_accepted s at number login ranks token valid due can BadRatio h = h
votes_accepted s at number login ranks token valid due can BadDays h = neither h
votes_accepted s at number login ranks token valid due can BadToken h = h can.well_formed
votes_accepted s at number login ranks token valid due can Full h = elim h [
  | inl full ↦ let room = due.room in omega arith
  | inr never ↦ never
]
votes_accepted s at number login ranks token valid due can NoResolution h =
    not_None (Voting can.discussion can.poll) (sym h ∙ can.held)
votes_accepted s at number login ranks token valid due can NoChoice h = neither h
votes_accepted s at number login ranks token valid due can WrongStage h =
    let never = of_value (get s.resolutions number) (λ row. IsFalse (is_voting row)) _ can.held h in cc
votes_accepted s at number login ranks token valid due can Ended h = elim h [
  | inl never ↦ never.0
  | inr late ↦
      let over = of_value (option_and_then present_poll (get s.resolutions number)) (λ poll. end_of_voting poll ≤ at)
      can.poll (ap (option_and_then present_poll) can.held) late in
      let early = can.time in
      omega arith
]
votes_accepted s at number login ranks token valid due can TooEarly h = neither h
votes_accepted s at number login ranks token valid due can NoDeveloper h = not_None can.developer (sym h ∙ can.on_roll)
votes_accepted s at number login ranks token valid due can NotCurrent h =
    let retired = of_value (get s.developers login) (λ row. row.standing ≡ Retired) can.developer can.on_roll h in
    let never = sym can.current ∙ retired in cc
votes_accepted s at number login ranks token valid due can Lapsed h = h
votes_accepted s at number login ranks token valid due can Already h = neither h
votes_accepted s at number login ranks token valid due can NotSponsor h = h
votes_accepted s at number login ranks token valid due can HasProposer h = h
votes_accepted s at number login ranks token valid due can NoProposer h = h
votes_accepted s at number login ranks token valid due can EndsTooSoon h = h
votes_accepted s at number login ranks token valid due can BadRanks h = h.1 can.whole
votes_accepted s at number login ranks token valid due can NotTied h = h
votes_accepted s at number login ranks token valid due can (BadRoll line) h = h
votes_accepted s at number login ranks token valid due can NotRevealed h = h

-- a casting vote for one of the tied
pub casts_accepted : CastingVotesAmongTheTiedAreAccepted
casts_accepted s at number place discussion poll due is tied BadMoment h = h due.moment
casts_accepted s at number place discussion poll due is tied ClockBack h =
    let clock = due.clock in omega arith
casts_accepted s at number place discussion poll due is tied BadLogin h = h
casts_accepted s at number place discussion poll due is tied BadText h = neither h
casts_accepted s at number place discussion poll due is tied BadRatio h = h
casts_accepted s at number place discussion poll due is tied BadDays h = neither h
casts_accepted s at number place discussion poll due is tied BadToken h = h
casts_accepted s at number place discussion poll due is tied Full h = elim h [
  | inl full ↦ let room = due.room in omega arith
  | inr never ↦ never
]
casts_accepted s at number place discussion poll due is tied NoResolution h =
    not_None (Closed discussion poll None) (sym h ∙ is)
casts_accepted s at number place discussion poll due is tied NoChoice h = elim h [
  | inl never ↦ never
  | inr none ↦ (of_value (get s.resolutions number) (λ row. IsTrue (is_closed row) × (¬ (IsPlace s number place))) _
      is none).1 tied.place
]
casts_accepted s at number place discussion poll due is tied WrongStage h =
    let never = of_value (get s.resolutions number) (λ row. IsFalse (is_closed row)) _ is h in cc
casts_accepted s at number place discussion poll due is tied Ended h = elim h [
  | inl never ↦ never.0
  | inr never ↦ never
]
casts_accepted s at number place discussion poll due is tied TooEarly h = neither h
casts_accepted s at number place discussion poll due is tied NoDeveloper h = h
casts_accepted s at number place discussion poll due is tied NotCurrent h = h
casts_accepted s at number place discussion poll due is tied Lapsed h = h
casts_accepted s at number place discussion poll due is tied Already h = elim h [
  | inl never ↦ never
  | inr chosen ↦
      let never = of_value (get s.resolutions number) (λ row. IsSome (chosen_of row)) (Closed discussion poll None) is
      chosen in
      cc
]
casts_accepted s at number place discussion poll due is tied NotSponsor h = h
casts_accepted s at number place discussion poll due is tied HasProposer h = h
casts_accepted s at number place discussion poll due is tied NoProposer h = h
casts_accepted s at number place discussion poll due is tied EndsTooSoon h = h
casts_accepted s at number place discussion poll due is tied BadRanks h = h
casts_accepted s at number place discussion poll due is tied NotTied h =
    elim (of_value (get s.resolutions number) (λ row. IsTrue (is_closed row)
    × IsSomeAnd (poll_of row) (λ poll. CannotBeChosen s number poll place)) _ is h).1 [
      | inl winner ↦ tied.tie winner
      | inr outside ↦ tied.member (λ inside. outside (tied.place, inside))
    ]
casts_accepted s at number place discussion poll due is tied (BadRoll line) h = h
casts_accepted s at number place discussion poll due is tied NotRevealed h = h
