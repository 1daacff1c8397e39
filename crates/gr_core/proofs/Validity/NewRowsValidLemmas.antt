-- What an accepted act on the roll, on a new choice or on a sponsor puts itself leaves a valid desk.
use Rattle.std.proofs.Common.{◌≡◌, ℕ, ◌<◌, ◌≤◌, inl, inr, List, length, Some, None, is_some, IsSome, IfSome, IsFalse, refl, ap, ◌∙◌}
use Rattle.std.specs.FinMap.{get, insert, len}
use Rattle.gr_count.specs.declared.limits.TheConstants.{MAX_DEVELOPERS}
use Rattle.gr_core.specs.declared.limits.TheConstants.{MAX_NAME_CHARACTERS, MAX_SUMMARY_CHARACTERS, MAX_RESOLUTIONS, MAX_CHOICES}
use Rattle.gr_core.specs.declared.developer.Standing.{Standing}
use Rattle.gr_core.specs.declared.discussion.Discussion.{Discussion}
use Rattle.gr_core.specs.declared.resolution.Resolution.{Resolution}
use Rattle.gr_core.specs.declared.resolution.Resolution.TheVariants.{Draft, Discussing}
use Rattle.gr_core.specs.declared.choice.ChoiceKey.{ChoiceKey}
use Rattle.gr_core.specs.declared.sponsor.Sponsorship.TheVariants.{Active, Withdrawn}
use Rattle.gr_core.specs.declared.refusal.Refusal.TheVariants.{BadLogin, BadText, BadRatio, Full, NoResolution, NoChoice, WrongStage, NoDeveloper, Already, BadRoll}
use Rattle.gr_core.specs.Parts.Text.{IsSummary, IsText}
use Rattle.gr_core.specs.Parts.Developer.{DeveloperModel}
use Rattle.gr_core.specs.Machine.Import.{RollRow, imported}
use Rattle.gr_core.specs.Parts.Resolution.{present_discussion}
use Rattle.gr_core.specs.Parts.Choice.{Proposer, login_of_proposer, Wording, choices_of, IsRatio}
use Rattle.gr_core.specs.Desks.State.{State}
use Rattle.gr_core.specs.Machine.Act.{SetDeveloper, ImportRoll, Propose, AddChoice, Sponsor, Unsponsor}
use Rattle.gr_core.specs.Machine.Refusal.{IsAccepted}
use Rattle.gr_core.specs.Machine.Effect.{new_choice, own}
use Rattle.gr_core.specs.Desks.Valid.{AreTables, IsChoice}
use Rattle.gr_core.proofs.Collections.PresenceLemmas.{there, given, is_given, unless_refused}
use Rattle.gr_core.proofs.Contents.StableLemmas.{lt_or_ge, IsLogin-stable, IsLine-stable, IsText-stable, IsRatio-stable}
use Rattle.gr_core.proofs.Collections.TextKeys.{text_total, text_only}
use Rattle.gr_core.proofs.Collections.RowPutLemmas.{len-put}
use Rattle.gr_core.proofs.Effects.ImportLemmas.{no_bad_row-from_none}
use Rattle.gr_core.proofs.Validity.GrowthLemmas.{developers-grown, sponsor-put}
use Rattle.gr_core.proofs.Validity.NewChoiceLemmas.{added-valid}
use Rattle.gr_core.proofs.Validity.NewResolutionLemmas.{proposed-valid}
use Rattle.gr_core.proofs.Validity.RollLemmas.{developers-put, developers-imported, grows-put, grows-imported}

-- where it is refused that a number is reached, another one is below it
below_unless : (a b : ℕ) → ¬ (b ≤ a) → a < b
below_unless a b refused = elim (lt_or_ge a b) [ inl below ↦ below | inr above ↦ absurd (refused above) ]

-- where it is refused that a login is not on the roll, it is on the roll
pub on_roll : (s : State) (login : List ℕ) → ¬ (get s.developers login ≡ None) → IsSome (get s.developers login)
on_roll s login refused = let row = there (get s.developers login) refused in is_given
    (get s.developers login) row.0 row.1

-- a resolution that is not in another stage is under discussion
pub discussing : (resolution : Resolution) → ¬ (IsFalse (is_some (present_discussion resolution)))
    → (discussion : Discussion) × (resolution ≡ Discussing discussion)
discussing (Discussing discussion) refused = (discussion, refl)
discussing other refused = absurd (refused refl)

-- a new choice is one that a resolution may have
new_choice-fits : (at : ℕ) (s : State) (resolution : Resolution) (proposer : Proposer) (wording : Wording) (ratio : ℕ)
    → IfSome (login_of_proposer proposer) (λ login. IsSome (get s.developers login)) → IsSummary wording.summary
    → IsText wording.text → IsRatio ratio
    → IsChoice at s.developers resolution (new_choice proposer wording ratio)
new_choice-fits at s resolution proposer wording ratio on summary text fits = record {
  proposer = on;
  summary = summary;
  text = text;
  ratio = fits;
  introduced = tt;
  short = tt;
  place = tt;
}

module _ (s : State) (at : ℕ) (valid : AreTables at s) where
  -- a developer is put on the roll
  pub own-set_developer : (login name : List ℕ) (standing : Standing)
      → IsAccepted s at (SetDeveloper login name standing)
      → AreTables at (own s at (SetDeveloper login name standing))
  own-set_developer login name standing accepted =
      let row : DeveloperModel = record { name = name; standing = standing } in
      developers-grown at s (insert s.developers login row) valid
      (len-put text_total text_only s.developers login row MAX_DEVELOPERS valid.few
      (λ new full. accepted Full (inr (record { new = new; full = full }))))
      (developers-put s.developers login row valid.developers (record {
        named = IsLogin-stable login (accepted BadLogin);
        name = IsLine-stable MAX_NAME_CHARACTERS name (λ bad. accepted BadText (inl bad));
      }))
      (grows-put s.developers login row)

  -- a roll is imported
  pub own-import : (rows : List RollRow) → IsAccepted s at (ImportRoll rows) → AreTables at (own s at (ImportRoll rows))
  own-import rows accepted =
      developers-grown at s (imported s.developers rows) valid
      (elim (lt_or_ge MAX_DEVELOPERS (len (imported s.developers rows))) [
        | inl many ↦ absurd (accepted Full (inr (inr many)))
        | inr few ↦ few
      ])
      (developers-imported s.developers rows valid.developers
      (no_bad_row-from_none rows (λ line. accepted (BadRoll line))))
      (grows-imported s.developers rows)

  -- a resolution is proposed
  pub own-propose : (proposer : Proposer) (wording : Wording) (ratio : ℕ)
      → IsAccepted s at (Propose proposer wording ratio)
      → AreTables at (own s at (Propose proposer wording ratio))
  own-propose proposer wording ratio accepted =
      proposed-valid at s (new_choice proposer wording ratio) valid
      (below_unless (len s.resolutions) MAX_RESOLUTIONS (λ full. accepted Full (inr full)))
      (new_choice-fits at s Draft proposer wording ratio
      (unless_refused (login_of_proposer proposer) _ (λ login. IsSome (get s.developers login)) (on_roll s)
      (accepted NoDeveloper))
      (IsLine-stable MAX_SUMMARY_CHARACTERS wording.summary (λ bad. accepted BadText (inr (inl bad))))
      (IsText-stable wording.text (λ bad. accepted BadText (inr (inr bad))))
      (IsRatio-stable ratio (accepted BadRatio)))

  -- a choice is added
  pub own-add : (number : ℕ) (proposer : Proposer) (wording : Wording) (ratio : ℕ)
      → IsAccepted s at (AddChoice number proposer wording ratio)
      → AreTables at (own s at (AddChoice number proposer wording ratio))
  own-add number proposer wording ratio accepted =
      let resolution = there (get s.resolutions number) (accepted NoResolution) in
      let stage = discussing resolution.0 (λ wrong. accepted WrongStage
      (given (get s.resolutions number)
      (λ r. IsFalse (is_some (present_discussion r))) resolution.0 resolution.1 wrong))
      in
      added-valid at s number (new_choice proposer wording ratio) stage.0 valid (resolution.1 ∙ ap Some stage.1)
      (below_unless (length (choices_of s.choices number)) MAX_CHOICES (λ full. accepted Full (inr full)))
      (new_choice-fits at s (Discussing stage.0) proposer wording ratio
      (unless_refused (login_of_proposer proposer) _ (λ login. IsSome (get s.developers login)) (on_roll s)
      (accepted NoDeveloper))
      (IsLine-stable MAX_SUMMARY_CHARACTERS wording.summary (λ bad. accepted BadText (inr (inl bad))))
      (IsText-stable wording.text (λ bad. accepted BadText (inr (inr bad))))
      (IsRatio-stable ratio (accepted BadRatio)))

  -- a developer sponsors a choice
  pub own-sponsor : (choice : ChoiceKey) (login : List ℕ) → IsAccepted s at (Sponsor choice login)
      → AreTables at (own s at (Sponsor choice login))
  own-sponsor choice login accepted =
      let row = there (get s.choices choice) (λ none. accepted NoChoice (inl none)) in
      sponsor-put at s choice login Active row.0 valid row.1 (record {
        on_roll = on_roll s login (accepted NoDeveloper);
        other = λ active same. accepted Already (inl (given (get s.choices choice) _ row.0 row.1 (inr same)));
      })

  -- a sponsor withdraws
  pub own-unsponsor : (choice : ChoiceKey) (login : List ℕ) → IsAccepted s at (Unsponsor choice login)
      → AreTables at (own s at (Unsponsor choice login))
  own-unsponsor choice login accepted =
      let row = there (get s.choices choice) (λ none. accepted NoChoice (inl none)) in
      sponsor-put at s choice login Withdrawn row.0 valid row.1 (record {
        on_roll = on_roll s login (accepted NoDeveloper);
        other = λ active same. absurd (cc);
      })
