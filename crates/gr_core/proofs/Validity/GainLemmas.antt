-- The bookkeeping of a choice leaves a valid desk.
use Rattle.std.proofs.Common.{◌≡◌, ℕ, ◌<◌, ◌≤◌, inr, true, false, Option, Some, None, is_some, IsSome, IfSome, IsSomeAnd, refl, sym, ap, ◌∙◌, arith}
use Rattle.std.specs.Prelude.{◌&&◌, not, cond, is_none}
use Rattle.std.specs.Cmp.{first_so}
use Rattle.std.specs.FinMap.{get}
use Rattle.gr_core.specs.declared.resolution.Resolution.{Resolution}
use Rattle.gr_core.specs.declared.resolution.Resolution.TheVariants.{Draft}
use Rattle.gr_core.specs.declared.choice.ChoiceKey.{ChoiceKey}
use Rattle.gr_core.specs.declared.bookkeeping.Gain.TheVariants.{Nothing, Introduction, Remedy}
use Rattle.gr_core.specs.Parts.Resolution.{discussion_of, entered}
use Rattle.gr_core.specs.Parts.Choice.{ChoiceModel}
use Rattle.gr_core.specs.Machine.Map.{changed_at}
use Rattle.gr_core.specs.Desks.State.{State}
use Rattle.gr_core.specs.Machine.Bookkeeping.{backs, gain_where, gain_at, gained, with_gain, after_gain, becomes_short_where, becomes_short, shortened, after_loss}
use Rattle.gr_core.specs.Desks.Valid.{AreTables, HasCome, IsResolution}
use Rattle.gr_core.proofs.Collections.PresenceLemmas.{each}
use Rattle.gr_core.proofs.Validity.StageLemmas.{becomes-entered, poll_of-entered}
use Rattle.gr_core.proofs.Validity.OneChoiceLemmas.{MayChange, changed-valid, MayChangeAlone, choice_changed-valid}

-- a resolution that a choice has entered has a discussion that has begun
entered-started : (at : ℕ) (s : State) (number : ℕ) (old : Resolution) → IsResolution at s number old
    → IsSomeAnd (discussion_of (entered at old)) (λ discussion. discussion.start ≤ at)
entered-started at s number Draft was = let same : at ≤ at = omega arith in same
entered-started at s number other was = was.discussion.start.1

-- a choice that gains something is there
gain-there : (s : State) (at : ℕ) (key : ChoiceKey) (found : Option ChoiceModel) → gain_where s key found ≡ Introduction
    → IsSomeAnd found (λ row. IsSome (gained Introduction at row).introduced)
gain-there s at key None is = absurd (let never : Nothing ≡ Introduction = is in cc)
gain-there s at key (Some row) is = refl

-- a choice may be introduced
introduction-may : (s : State) (at : ℕ) (key : ChoiceKey) → 0 < at → gain_at s key ≡ Introduction
    → MayChange at s key (entered at) (gained Introduction at)
introduction-may s at key late is = record {
  place = λ row. refl;
  introduced = λ row before. refl;
  becomes = λ old was. becomes-entered at s key.resolution old late was;
  poll = λ old. poll_of-entered at old;
  discussed = λ old there discussed. inr (gain-there s at key (get s.choices key) is);
  choice = λ row old there resolution was.
      let becomes = becomes-entered at s key.resolution old late resolution in
      record {
        proposer = was.proposer;
        summary = was.summary;
        text = was.text;
        ratio = was.ratio;
        introduced = ((let same : at ≤ at = omega arith in same), entered-started at s key.resolution old resolution);
        short = each row.short _ _ (λ since known. (known.0, refl)) was.short;
        place = each row.place _ _ (λ place known. (refl, becomes.polled known.1)) was.place;
      };
  sponsor = λ row login sponsorship there was. record { on_roll = was.on_roll; other = was.other };
}

-- since when a choice is short may change
short-may : (s : State) (at : ℕ) (key : ChoiceKey) (short : Option ℕ)
    → ((row : ChoiceModel) → get s.choices key ≡ Some row → IfSome short (λ since. HasCome at since × IsSome row.introduced))
    → MayChangeAlone at s key (λ row. record row { short = short })
short-may s at key short known = record {
  place = λ row. refl;
  introduced = λ row before. before;
  choice = λ row old there was. record {
    proposer = was.proposer;
    summary = was.summary;
    text = was.text;
    ratio = was.ratio;
    introduced = was.introduced;
    short = known row there;
    place = was.place;
  };
  sponsor = λ row login sponsorship there was. record { on_roll = was.on_roll; other = was.other };
}

-- the desk after a choice gained a proposer or a sponsor
pub gain-valid : (s : State) (at : ℕ) (key : ChoiceKey) → 0 < at → AreTables at s → AreTables at (after_gain s at key)
gain-valid s at key late valid =
    elim (gain_at s key) as (λ gain. gain_at s key ≡ gain → AreTables at (with_gain gain s at key)) [
      | Nothing ↦ λ is. valid
      | Introduction ↦ λ is. changed-valid at s key (entered at) (gained Introduction at) valid
          (introduction-may s at key late is)
      | Remedy ↦ λ is. choice_changed-valid at s key (gained Remedy at) valid (short-may s at key None (λ row there. tt))
    ] refl

-- an introduced choice may become short
shortened-may : (s : State) (at : ℕ) (key : ChoiceKey) → 0 < at → becomes_short s key ≡ true
    → MayChangeAlone at s key (shortened at)
shortened-may s at key late is = short-may s at key (Some at) (λ row there. (
  (late, (let same : at ≤ at = omega arith in same)),
  first_so (is_some row.introduced) (is_none row.short)
      (first_so (is_some row.introduced && is_none row.short) (not (backs s key row))
      (ap (becomes_short_where s key) (sym there) ∙ is)),
))

-- the desk after a choice lost its proposer or a sponsor
pub loss-valid : (s : State) (at : ℕ) (key : ChoiceKey) → 0 < at → AreTables at s → AreTables at (after_loss s at key)
loss-valid s at key late valid =
    elim (becomes_short s key) as (λ b. becomes_short s key ≡ b
    → AreTables at (cond b (record s { choices = changed_at s.choices key (shortened at) }) s)) [
      | true ↦ λ is. choice_changed-valid at s key (shortened at) valid (shortened-may s at key late is)
      | false ↦ λ is. valid
    ] refl
