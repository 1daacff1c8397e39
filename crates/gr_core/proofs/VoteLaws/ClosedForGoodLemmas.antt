-- What stays of a closed resolution, whatever comes.
use Rattle.std.proofs.Common.{◌≡◌, ℕ, List, [], ◌∷◌, Option, Some, None, IsSome, refl, sym, ap, ◌∙◌, subst}
use Rattle.std.specs.FinMap.{get}
use Rattle.gr_core.specs.declared.discussion.Discussion.{Discussion}
use Rattle.gr_core.specs.declared.resolution.Poll.{Poll}
use Rattle.gr_core.specs.declared.resolution.Resolution.{Resolution}
use Rattle.gr_core.specs.declared.resolution.Resolution.TheVariants.{Draft, Discussing, Voting, Closed, Cancelled}
use Rattle.gr_core.specs.Parts.Choice.{choices_of}
use Rattle.gr_core.specs.Desks.State.{State}
use Rattle.gr_core.specs.Laws.Secrecy.{AlikeDesksHaveTheSameOtherBallots}
use Rattle.gr_core.specs.Machine.Act.{Act}
use Rattle.gr_core.specs.Desks.Valid.{IsValid}
use Rattle.gr_core.specs.Machine.Effect.{effect, counted}
use Rattle.gr_core.specs.Machine.Step.{Answer, Accepted, Refused}
use Rattle.gr_core.specs.Machine.Run.{After}
use Rattle.gr_core.specs.Laws.ResolutionLaws.{MayBecome}
use Rattle.gr_core.specs.Laws.VotingLaws.{ClosedVotesStay}
use Rattle.gr_core.proofs.Collections.PresenceLemmas.{taken}
use Rattle.gr_core.proofs.Validity.ValidLemmas.{step_valid}
use Rattle.gr_core.proofs.Effects.ResolutionLemmas.{stages_follow}
use Rattle.gr_core.proofs.Effects.LeftVoteLemmas.{ballots_of-same, keeps_poll}
use Rattle.gr_core.proofs.VoteLaws.VoterLemmas.{closed_ballots_stay}

-- the resolution is closed with this discussion and poll, and a place that was chosen stays
abbrev Stays : Discussion → Poll → Option ℕ → Resolution → Type 0
Stays discussion poll chosen row = (later : Option ℕ) × (row ≡ Closed discussion poll later) × (IsSome chosen → later ≡ chosen)

became : (discussion : Discussion) (poll : Poll) (chosen : Option ℕ) (row : Resolution) → MayBecome (Closed discussion poll chosen) row
    → Stays discussion poll chosen row
became discussion poll None (Closed after held (Some place)) is =
    (Some place, (λ i. Closed (sym is.0 i) (sym is.1 i) (Some place)), λ some. absurd (let never = some in cc))
became discussion poll None (Closed after held None) is = (None, sym is, λ some. refl)
became discussion poll None Draft is = (None, sym is, λ some. refl)
became discussion poll None (Discussing after) is = (None, sym is, λ some. refl)
became discussion poll None (Voting after held) is = (None, sym is, λ some. refl)
became discussion poll None (Cancelled after) is = (None, sym is, λ some. refl)
became discussion poll (Some place) row is = (Some place, sym is, λ some. refl)

-- the row and the choices after a list of acts
abbrev Kept : State → State → ℕ → Discussion → Poll → Option ℕ → Type 0
Kept s t number discussion poll chosen =
    ((later : Option ℕ) × (get t.resolutions number ≡ Some (Closed discussion poll later)) × (IsSome chosen → later ≡ chosen))
    × (choices_of t.choices number ≡ choices_of s.choices number)

kept : (s : State) (acts : List (ℕ × Act)) (answers : List Answer) (t : State) (number : ℕ)
    (discussion : Discussion) (poll : Poll) (chosen : Option ℕ)
    → IsValid s → get s.resolutions number ≡ Some (Closed discussion poll chosen) → After s acts answers t
    → Kept s t number discussion poll chosen
kept s [] [] t number discussion poll chosen valid is p =
    ((chosen, ap (λ u. get u.resolutions number) p ∙ is, λ some. refl), ap (λ u. choices_of u.choices number) p)
kept s [] (x ∷ xs) t number discussion poll chosen valid is p = absurd p
kept s (act ∷ acts) [] t number discussion poll chosen valid is p = absurd p
kept s ((at, act) ∷ acts) (Accepted reply ∷ xs) t number discussion poll chosen valid is p =
    let mid = counted (effect s at act) at in
    let row = Closed discussion poll chosen in
    let after = taken (get mid.resolutions number) (MayBecome row)
    (stages_follow s at act reply mid number row valid (p.1.0, p.1.1, refl) is) in
    let here = became discussion poll chosen after.0 after.2 in
    let rest = kept mid acts xs t number discussion poll here.0 (step_valid s at act valid p.1.0)
    (after.1 ∙ ap Some here.1) (subst (λ u. After u acts xs t) p.1.2 p.2) in (
      (rest.0.0, rest.0.1, λ some. rest.0.2 (subst IsSome (sym (here.2 some)) some) ∙ here.2 some),
      rest.1 ∙ (keeps_poll s.header.clock s at valid.tables number row poll is refl act p.1.0).choices,
    )
kept s (act ∷ acts) (Refused refusal ∷ xs) t number discussion poll chosen valid is p =
    kept s acts xs t number discussion poll chosen valid is (subst (λ mid. After mid acts xs t) p.1.1 p.2)

pub closed_votes_stay : ClosedVotesStay
closed_votes_stay s acts answers t number discussion poll chosen valid is p =
    let stays = kept s acts answers t number discussion poll chosen valid is p in (
      stays.0,
      stays.1,
      ballots_of-same s.ballots t.ballots number (λ login.
          closed_ballots_stay s acts answers t number (Closed discussion poll chosen) login valid is refl p),
    )

pub alike_others : AlikeDesksHaveTheSameOtherBallots
alike_others s t resolution alike ended =
    ballots_of-same s.ballots t.ballots resolution (λ login. alike.ballots resolution login ended)
