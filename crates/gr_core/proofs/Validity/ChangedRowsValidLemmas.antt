-- What an accepted act on a choice or on a discussion puts itself leaves a valid desk.
use Rattle.std.proofs.Common.{◌≡◌, ℕ, ◌≤◌, inl, inr, true, false, cond, List, Some, None, is_some, IsSome, IfSome, IsFalse, refl, sym, ap, ◌∙◌, subst, le_trans, arith}
use Rattle.std.proofs.lemmas.Int.{ints}
use Rattle.std.specs.Prelude.{ℤ, pos, negsuc, unsigned_abs}
use Rattle.std.specs.Option.{option_map_or}
use Rattle.std.specs.FinMap.{get, insert}
use Rattle.gr_count.specs.declared.limits.TheConstants.{MAX_DEVELOPERS}
use Rattle.gr_core.specs.declared.limits.TheConstants.{MAX_SUMMARY_CHARACTERS}
use Rattle.gr_core.specs.declared.discussion.Discussion.{Discussion}
use Rattle.gr_core.specs.declared.resolution.Resolution.{Resolution}
use Rattle.gr_core.specs.declared.resolution.Resolution.TheVariants.{Discussing}
use Rattle.gr_core.specs.declared.choice.ChoiceKey.{ChoiceKey}
use Rattle.gr_core.specs.declared.sponsor.Sponsorship.TheVariants.{Active, Withdrawn}
use Rattle.gr_core.specs.declared.command.Amendment.{Amendment}
use Rattle.gr_core.specs.declared.refusal.Refusal.TheVariants.{BadText, BadDays, NoResolution, NoChoice, WrongStage, NoDeveloper}
use Rattle.gr_core.specs.Parts.Text.{IsSummary, IsText}
use Rattle.gr_core.specs.Parts.Discussion.{IsPeriod}
use Rattle.gr_core.specs.Parts.Developer.{is_current, current_count}
use Rattle.gr_core.specs.Machine.Map.{changed_at}
use Rattle.gr_core.specs.Parts.Resolution.{present_discussion, discussion_of, poll_of, changed, shifted, closed, decided}
use Rattle.gr_core.specs.Parts.Choice.{ChoiceModel, Proposer, Developer, Leader, Committee, login_of_proposer, Wording, choice_key}
use Rattle.gr_core.specs.Parts.Sponsor.{is_active, is_active_sponsor}
use Rattle.gr_core.specs.Parts.Ballot.{new_ballot}
use Rattle.gr_core.specs.Desks.State.{State}
use Rattle.gr_core.specs.Machine.Act.{Withdraw, Adopt, Amend, Vary, Call, Vote, Close, Cast}
use Rattle.gr_core.specs.Machine.Refusal.{IsAccepted}
use Rattle.gr_core.specs.Machine.Effect.{without_sponsor, changes_ballot, poll_at, own}
use Rattle.gr_core.specs.Desks.Valid.{AreTables, IsPoll, IsResolution, IsChoice}
use Rattle.gr_core.proofs.Collections.PresenceLemmas.{not_false, there, given, unless_refused}
use Rattle.gr_core.proofs.Contents.StableLemmas.{IsLine-stable, IsText-stable, IsShift-stable, IsPeriod-stable}
use Rattle.gr_core.proofs.Collections.PairKeys.{choice_total, choice_only}
use Rattle.gr_core.proofs.Collections.RowPutLemmas.{get-put}
use Rattle.gr_core.proofs.Collections.CountLemmas.{count-le_len}
use Rattle.gr_core.proofs.Contents.SponsorLemmas.{sponsor_total, sponsor_only}
use Rattle.gr_core.proofs.Effects.CloseAndCastLemmas.{poll_of-closed, poll_of-decided}
use Rattle.gr_core.proofs.Validity.StageLemmas.{Becomes, becomes-changed, becomes-shifted, becomes-closed, becomes-decided, poll_of-changed, poll_of-shifted, discussed-changed, discussed-shifted, discussed-closed, discussed-decided, choice-kept}
use Rattle.gr_core.proofs.Validity.OneChoiceLemmas.{changed-valid, changed_at-same, choice_changed-valid}
use Rattle.gr_core.proofs.Validity.GrowthLemmas.{choice-proposed, sponsor-put, ballot-put}
use Rattle.gr_core.proofs.Validity.CallValidLemmas.{called-valid}
use Rattle.gr_core.proofs.Validity.NewRowsValidLemmas.{on_roll, discussing}

-- days that are a period are so many from 0
period-pos : (days : ℤ) → IsPeriod days → IsPeriod (pos (unsigned_abs days))
period-pos (pos count) within = within
period-pos (negsuc count) within = absurd (omega (arith, ints, within.least))

-- who becomes the proposer is no active sponsor any more
rested : (s : State) (choice : ChoiceKey) (proposer : Proposer) (login : List ℕ) → proposer ≡ Developer login
    → get (without_sponsor s.sponsors choice (login_of_proposer proposer)) (choice, login) ≡ Some Active → ⊥
rested s choice (Developer name) login same is =
    let one : name ≡ login = cc in
    elim (is_active_sponsor s.sponsors (choice, name)) as (λ b. is_active_sponsor s.sponsors (choice, name) ≡ b
    → get (cond b (insert s.sponsors (choice, name) Withdrawn) s.sponsors) (choice, name) ≡ Some Active → ⊥) [
      | true ↦ λ was active.
          let never : Some Withdrawn
          ≡ Some Active = sym (get-put sponsor_total sponsor_only s.sponsors (choice, name) Withdrawn)
          ∙ active in cc
      | false ↦ λ was active. not_false (sym was ∙ ap (λ o. option_map_or is_active o false) active)
    ] refl (subst (λ l. get (without_sponsor s.sponsors choice (Some name)) (choice, l) ≡ Some Active) (sym one) is)
rested s choice Leader login same is = cc
rested s choice Committee login same is = cc

-- the row with another wording
abbrev worded : Wording → ChoiceModel → ChoiceModel
worded wording row = record row { wording = wording }

module _ (s : State) (at : ℕ) (valid : AreTables at s) where
  -- a proposer withdraws
  pub own-withdraw : (choice : ChoiceKey) → AreTables at (own s at (Withdraw choice))
  own-withdraw choice =
      choice_changed-valid at s choice (λ row. record row { proposer = None }) valid (record {
        place = λ row. refl;
        introduced = λ row before. before;
        choice = λ row old is was. choice-proposed at s.developers s.developers old row None tt was;
        sponsor = λ row login sponsorship is was. record { on_roll = was.on_roll; other = λ active same. absurd (cc) };
      })

  -- the new proposer's sponsorship rests
  without-valid : (choice : ChoiceKey) (proposer : Proposer) (row : ChoiceModel) → get s.choices choice ≡ Some row
      → IfSome (login_of_proposer proposer) (λ login. IsSome (get s.developers login))
      → AreTables at (record s { sponsors = without_sponsor s.sponsors choice (login_of_proposer proposer) })
  without-valid choice (Developer login) row is on =
      elim (is_active_sponsor s.sponsors (choice, login)) as
      (λ b. AreTables at (record s {
        sponsors = cond b
            (insert s.sponsors (choice, login) Withdrawn) s.sponsors;
      })) [
        | true ↦ sponsor-put at s choice login Withdrawn row valid is
            (record { on_roll = on; other = λ active same. absurd (cc) })
        | false ↦ valid
      ]
  without-valid choice Leader row is on = valid
  without-valid choice Committee row is on = valid

  -- a choice is adopted
  pub own-adopt : (choice : ChoiceKey) (proposer : Proposer) → IsAccepted s at (Adopt choice proposer)
      → AreTables at (own s at (Adopt choice proposer))
  own-adopt choice proposer accepted =
      let on = unless_refused (login_of_proposer proposer) _ (λ login. IsSome (get s.developers login)) (on_roll s)
      (accepted NoDeveloper) in
      let found = there (get s.choices choice) (λ none. accepted NoChoice (inl none)) in
      choice_changed-valid at (record s { sponsors = without_sponsor s.sponsors choice (login_of_proposer proposer) }) choice
      (λ row. record row { proposer = Some proposer }) (without-valid choice proposer found.0 found.1 on) (record {
        place = λ row. refl;
        introduced = λ row before. before;
        choice = λ row old is was. choice-proposed at s.developers s.developers old row (Some proposer) on was;
        sponsor = λ row login sponsorship is was. record {
          on_roll = was.on_roll;
          other = λ active same. rested s choice proposer login (cc) (is ∙ ap Some active);
        };
      })

  -- a choice may have another wording
  amended-fits : (wording : Wording) → IsSummary wording.summary → IsText wording.text
      → (resolution : Resolution) (row : ChoiceModel)
      → IsChoice at s.developers resolution row → IsChoice at s.developers resolution (worded wording row)
  amended-fits wording summary text resolution row was = record {
    proposer = was.proposer;
    summary = summary;
    text = text;
    ratio = was.ratio;
    introduced = was.introduced;
    short = was.short;
    place = was.place;
  }

  -- a choice is amended
  pub own-amend : (choice : ChoiceKey) (amendment : Amendment) (wording : Wording)
      → IsAccepted s at (Amend choice amendment wording)
      → AreTables at (own s at (Amend choice amendment wording))
  own-amend choice amendment wording accepted =
      let fits = amended-fits wording (IsLine-stable MAX_SUMMARY_CHARACTERS wording.summary (λ bad. accepted BadText (inr (inl bad))))
      (IsText-stable wording.text (λ bad. accepted BadText (inr (inr bad))))
      in
      elim (changes_ballot amendment (get s.resolutions choice.resolution) (get s.choices choice)) as
      (λ b. AreTables at (record s {
        resolutions = cond b (changed_at s.resolutions choice.resolution (changed at)) s.resolutions;
        choices = changed_at s.choices choice (worded wording);
      })) [
        | true ↦ changed-valid at s choice (changed at) (worded wording) valid (record {
          place = λ row. refl;
          introduced = λ row before. before;
          becomes = becomes-changed at s choice.resolution;
          poll = poll_of-changed at;
          discussed = λ old is discussed. inl (discussed-changed at old discussed);
          choice = λ row old is resolution was. fits (changed at old) row
              (choice-kept at s.developers old (changed at old) row
              (becomes-changed at s choice.resolution old resolution) was);
          sponsor = λ row login sponsorship is was. record { on_roll = was.on_roll; other = was.other };
        })
        | false ↦ choice_changed-valid at s choice (worded wording) valid (record {
          place = λ row. refl;
          introduced = λ row before. before;
          choice = λ row old is was. fits old row was;
          sponsor = λ row login sponsorship is was. record { on_roll = was.on_roll; other = was.other };
        })
      ]

  -- a resolution is changed, and none of its choices
  staged-valid : (number : ℕ) (change : Resolution → Resolution)
      → ((old : Resolution) → IsResolution at s number old → Becomes at old (change old))
      → ((old : Resolution) → poll_of (change old) ≡ poll_of old)
      → ((old : Resolution) → IsSome (discussion_of (change old)) → IsSome (discussion_of old))
      → AreTables at (record s { resolutions = changed_at s.resolutions number change })
  staged-valid number change becomes poll discussed =
      let key = choice_key number 1 in
      subst (λ choices. AreTables at
      (record s { resolutions = changed_at s.resolutions number change; choices = choices }))
      (changed_at-same choice_total choice_only s.choices key)
      (changed-valid at s key change (λ row. row) valid (record {
        place = λ row. refl;
        introduced = λ row before. before;
        becomes = becomes;
        poll = poll;
        discussed = λ old is is_discussed. inl (discussed old is_discussed);
        choice = λ row old is resolution was. choice-kept at s.developers old (change old) row
            (becomes old resolution) was;
        sponsor = λ row login sponsorship is was. was;
      }))

  -- a discussion is varied
  pub own-vary : (number : ℕ) (days : ℤ) → IsAccepted s at (Vary number days)
      → AreTables at (own s at (Vary number days))
  own-vary number days accepted =
      let within = IsShift-stable days (λ bad. accepted BadDays (inl bad)) in
      staged-valid number (shifted days) (λ old resolution. becomes-shifted at s number days old within resolution)
      (poll_of-shifted days) (discussed-shifted days)

  -- a call comes while the resolution is under discussion
  pub call-discussion : (number : ℕ) (days : ℤ) → IsAccepted s at (Call number days)
      → (discussion : Discussion) × (get s.resolutions number ≡ Some (Discussing discussion))
  call-discussion number days accepted =
      let resolution = there (get s.resolutions number) (accepted NoResolution) in
      let stage = discussing resolution.0 (λ wrong. accepted WrongStage
      (given (get s.resolutions number)
      (λ r. IsFalse (is_some (present_discussion r))) resolution.0 resolution.1 wrong))
      in
      (stage.0, resolution.1 ∙ ap Some stage.1)

  -- and makes a poll that it may have
  pub call-poll : (number : ℕ) (days : ℤ) (discussion : Discussion) → IsAccepted s at (Call number days)
      → get s.resolutions number ≡ Some (Discussing discussion) → IsPoll at discussion (poll_at s at days)
  call-poll number days discussion accepted is =
      let few : current_count s.developers ≤ MAX_DEVELOPERS
      = le_trans (count-le_len (λ entry. is_current entry.1.standing) s.developers) valid.few in
      record {
        called = (
          (valid.resolutions number (Discussing discussion) is).discussion.start.1,
          (let same : at ≤ at = omega arith in same),
        );
        days = period-pos days (IsPeriod-stable days (λ bad. accepted BadDays (inr bad)));
        developers = few;
      }

  -- a vote is called for
  pub own-call : (number : ℕ) (days : ℤ) → IsAccepted s at (Call number days)
      → AreTables at (own s at (Call number days))
  own-call number days accepted =
      let stage = call-discussion number days accepted in
      called-valid at s number (poll_at s at days) stage.0 valid stage.1
      (call-poll number days stage.0 accepted stage.1)

  -- a ballot is taken
  pub own-vote : (number : ℕ) (login ranks token : List ℕ) → AreTables at (own s at (Vote number login ranks token))
  own-vote number login ranks token =
      ballot-put at s (number, login) (new_ballot (get s.ballots (number, login)) number login ranks token) valid

  -- a vote is closed
  pub own-close : (number : ℕ) → AreTables at (own s at (Close number))
  own-close number = staged-valid number closed (becomes-closed at s number) poll_of-closed discussed-closed

  -- a casting vote is used
  pub own-cast : (number place : ℕ) → AreTables at (own s at (Cast number place))
  own-cast number place =
      staged-valid number (decided place) (becomes-decided at s number place) (poll_of-decided place)
      (discussed-decided place)
