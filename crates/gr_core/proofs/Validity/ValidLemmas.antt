-- Steps of a desk put their rows and keep it valid.
use Rattle.std.proofs.Common.{◌≡◌, ℕ, ◌+◌, ◌<◌, ◌≤◌, inl, inr, Option, Some, None, is_some, refl, sym, ap, ◌∙◌, subst, arith}
use Rattle.std.specs.Ordering.{nat_cmp}
use Rattle.std.specs.FinMap.{get, get-empty, len-empty}
use Rattle.gr_core.specs.declared.limits.TheConstants.{MAX_ACCEPTED}
use Rattle.gr_core.specs.declared.resolution.Resolution.{Resolution}
use Rattle.gr_core.specs.declared.choice.ChoiceKey.{ChoiceKey}
use Rattle.gr_core.specs.declared.refusal.Refusal.TheVariants.{BadMoment, ClockBack, Full}
use Rattle.gr_core.specs.Parts.Header.{IsHeader}
use Rattle.gr_core.specs.Parts.Developer.{DeveloperModel}
use Rattle.gr_core.specs.Parts.Key.{text_cmp, choice_cmp, sponsor_cmp, ballot_cmp}
use Rattle.gr_core.specs.Desks.State.{State, new_state}
use Rattle.gr_core.specs.Desks.Valid.{IsValid, AreTables}
use Rattle.gr_core.specs.Machine.Act.{Act, SetDeveloper, ImportRoll, Propose, AddChoice, Sponsor, Unsponsor, Withdraw, Adopt, Amend, Vary, Call, Vote, Close, Cast}
use Rattle.gr_core.specs.Machine.Refusal.{IsAccepted}
use Rattle.gr_core.specs.Machine.Effect.{own, gaining, losing, booked, effect, counted}
use Rattle.gr_core.specs.declared.plan.Plan.{Plan}
use Rattle.gr_core.specs.Machine.Row.{put_all}
use Rattle.gr_core.specs.Machine.Plan.{rows_of, IsPlanOn}
use Rattle.gr_core.specs.Laws.MachineLaws.{SetDeveloperPutsItsRow}
use Rattle.gr_core.proofs.Collections.PresenceLemmas.{not_None, not_false}
use Rattle.gr_core.proofs.Collections.RowPutLemmas.{get-put, get-put_other}
use Rattle.gr_core.proofs.Collections.TextKeys.{text_total, text_only}
use Rattle.gr_core.proofs.Contents.StableLemmas.{lt_or_ge, IsMoment-stable}
use Rattle.gr_core.proofs.Effects.LeftTableLemmas.{header-effect}
use Rattle.gr_core.proofs.Validity.AlteredLemmas.{resolution-same}
use Rattle.gr_core.proofs.Validity.GrowthLemmas.{clock-later}
use Rattle.gr_core.proofs.Validity.VoteValidLemmas.{votes-valid}
use Rattle.gr_core.proofs.Validity.GainLemmas.{gain-valid, loss-valid}
use Rattle.gr_core.proofs.Validity.NewRowsValidLemmas.{own-set_developer, own-import, own-propose, own-add, own-sponsor, own-unsponsor}
use Rattle.gr_core.proofs.Validity.ChangedRowsValidLemmas.{own-withdraw, own-adopt, own-amend, own-vary, own-call, own-vote, own-close, own-cast}

-- a desk that has accepted nothing is valid
pub new_valid : IsValid new_state
new_valid = record {
  header = record {
    version = refl;
    accepted = omega arith;
    clock = omega arith;
    unused = (λ _. refl, λ _. refl);
  };
  tables = record {
    few = omega (arith, len-empty text_cmp DeveloperModel);
    developers = λ login row is. absurd (not_None row (sym (get-empty text_cmp login) ∙ is));
    numbered = record {
      few = omega (arith, len-empty nat_cmp Resolution);
      numbered = λ number. (
        (λ is. absurd (not_false (sym (ap is_some (get-empty nat_cmp number)) ∙ is))),
        (λ within. absurd (omega (arith, len-empty nat_cmp Resolution, within.0, within.1))),
      );
    };
    resolutions = λ number resolution is. absurd (not_None resolution (sym (get-empty nat_cmp number) ∙ is));
    choices = λ key choice is. absurd (not_None choice (sym (get-empty choice_cmp key) ∙ is));
    sponsors = λ key login sponsorship is. absurd
        (not_None sponsorship (sym (get-empty sponsor_cmp (key, login)) ∙ is));
  };
  votes = record {
    ballots = λ number login ballot is. absurd (not_None ballot (sym (get-empty ballot_cmp (number, login)) ∙ is));
    chosen = λ number resolution is. absurd (not_None resolution (sym (get-empty nat_cmp number) ∙ is));
  };
}

-- an accepted SetDeveloper puts its row
pub row_put : SetDeveloperPutsItsRow
row_put s at login name standing reply t step =
    let row : DeveloperModel = record { name = name; standing = standing } in
    let is = ap (λ (u : State). u.developers) step.2 in (
      ap (λ m. get m login) is ∙ get-put text_total text_only s.developers login row,
      λ other differs. ap (λ m. get m other) is
          ∙ get-put_other text_total text_only s.developers login other row differs,
    )

-- one more accepted act, whichever it is, leaves a header that a desk may have
counted_valid : (s : State) (at : ℕ) (act : Act) → IsHeader s.header → IsAccepted s at act
    → IsHeader (counted s at).header
counted_valid s at act valid accepted =
    let moment = IsMoment-stable at (accepted BadMoment) in
    let some : 0 < at = moment.0 in
    let bound : s.header.accepted ≤ MAX_ACCEPTED = valid.accepted in
    let room : MAX_ACCEPTED ≤ s.header.accepted → ⊥ = λ full. accepted Full (inl full) in
    record {
      version = valid.version;
      accepted = omega arith;
      clock = moment.1;
      unused = (λ zero_clock. absurd (omega arith), λ zero_count. absurd (omega arith));
    }

-- what an accepted act puts itself leaves tables that a desk may have
own_valid : (s : State) (at : ℕ) (act : Act) → AreTables at s → IsAccepted s at act → AreTables at (own s at act)
own_valid s at (SetDeveloper login name standing) valid accepted =
    own-set_developer s at valid login name standing accepted
own_valid s at (ImportRoll rows) valid accepted = own-import s at valid rows accepted
own_valid s at (Propose proposer wording ratio) valid accepted = own-propose s at valid proposer wording ratio accepted
own_valid s at (AddChoice number proposer wording ratio) valid accepted =
    own-add s at valid number proposer wording ratio accepted
own_valid s at (Sponsor choice login) valid accepted = own-sponsor s at valid choice login accepted
own_valid s at (Unsponsor choice login) valid accepted = own-unsponsor s at valid choice login accepted
own_valid s at (Withdraw choice) valid accepted = own-withdraw s at valid choice
own_valid s at (Adopt choice proposer) valid accepted = own-adopt s at valid choice proposer accepted
own_valid s at (Amend choice amendment wording) valid accepted = own-amend s at valid choice amendment wording accepted
own_valid s at (Vary number days) valid accepted = own-vary s at valid number days accepted
own_valid s at (Call number days) valid accepted = own-call s at valid number days accepted
own_valid s at (Vote number login ranks token) valid accepted = own-vote s at valid number login ranks token
own_valid s at (Close number) valid accepted = own-close s at valid number
own_valid s at (Cast number place) valid accepted = own-cast s at valid number place

-- and so does the bookkeeping that follows
booked_valid : (gains loses : Option ChoiceKey) (at : ℕ) (s : State) → 0 < at → AreTables at s
    → AreTables at (booked gains loses at s)
booked_valid (Some choice) loses at s late valid = gain-valid s at choice late valid
booked_valid None (Some choice) at s late valid = loss-valid s at choice late valid
booked_valid None None at s late valid = valid

-- the header is no part of the tables
tables-counted : (s : State) (at : ℕ) → AreTables at s → AreTables at (counted s at)
tables-counted s at valid = record {
  few = valid.few;
  developers = valid.developers;
  numbered = record { few = valid.numbered.few; numbered = valid.numbered.numbered };
  resolutions = λ number resolution is. resolution-same at s (counted s at) number resolution (λ key on. refl)
      (valid.resolutions number resolution is);
  choices = valid.choices;
  sponsors = valid.sponsors;
}

-- an accepted act leaves a valid desk
pub step_valid : (s : State) (at : ℕ) (act : Act) → IsValid s → IsAccepted s at act
    → IsValid (counted (effect s at act) at)
step_valid s at act valid accepted =
    let moment = IsMoment-stable at (accepted BadMoment) in
    let later : s.header.clock ≤ at = elim (lt_or_ge at s.header.clock) [
      | inl before ↦ absurd (accepted ClockBack before)
      | inr after ↦ after
    ] in
    let now = clock-later s.header.clock at later s valid.tables in
    record {
      header = subst (λ header. IsHeader (record header { accepted = header.accepted + 1; clock = at }))
          (sym (header-effect s at act))
          (counted_valid s at act valid.header accepted);
      tables = tables-counted (effect s at act) at
          (booked_valid (gaining s act) (losing act) at (own s at act) moment.0 (own_valid s at act now accepted));
      votes = votes-valid s at now valid.votes valid act accepted;
    }

-- the rows of a plan leave a valid desk
pub planned_valid : (s t : State) (plan : Plan) → IsValid s → IsPlanOn s plan → t ≡ put_all s (rows_of plan) → IsValid t
planned_valid s t plan valid made is =
    let step = made.2 in
    subst IsValid (sym (is ∙ step.2)) (step_valid s made.0 made.1 valid step.0)
