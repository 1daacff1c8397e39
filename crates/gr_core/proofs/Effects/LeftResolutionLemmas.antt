-- The resolutions that an act leaves: all but its own. Changes of the roll and minor acts leave whole tables.
use Rattle.std.proofs.Common.{◌≡◌, ℕ, Bool, true, false, cond, List, [], ◌∷◌, map, Some, refl, sym, ap, ◌∙◌}
use Rattle.std.specs.Prelude.{◌||◌, filter}
use Rattle.std.specs.List.{AllByRecursion}
use Rattle.std.proofs.lemmas.List.Elements.{All-weaker, recursion_from_All}
use Rattle.std.specs.declared.cmp.Ordering.{Ordering}
use Rattle.std.specs.Ordering.{nat_cmp, eq_by_cmp}
use Rattle.std.specs.FinMap.{IsAntisymmetric, get, nat_cmp-IsAntisymmetric}
use Rattle.gr_core.specs.declared.choice.ChoiceKey.{ChoiceKey}
use Rattle.gr_core.specs.declared.command.Amendment.TheVariants.{Substantial, Minor}
use Rattle.gr_core.specs.Parts.Key.{choice_cmp, sponsor_cmp, ballot_cmp}
use Rattle.gr_core.specs.Parts.Choice.{ChoiceModel, Developer, Leader, Committee, choice_key, choices_of}
use Rattle.gr_core.specs.Parts.Sponsor.{is_active_sponsor}
use Rattle.gr_core.specs.Desks.State.{State}
use Rattle.gr_core.specs.Machine.Bookkeeping.{gain_at, becomes_short, is_live}
use Rattle.gr_core.specs.Machine.Act.{Act, SetDeveloper, ImportRoll, Propose, AddChoice, Sponsor, Unsponsor, Withdraw, Adopt, Amend, Vary, Call, Vote, Close, Cast}
use Rattle.gr_core.specs.Machine.Effect.{own, only_if, introduces, is_gain, next_resolution, first_choice_key, next_choice_key, changes_ballot, resolutions_put, choices_put, sponsors_put, ballots_put}
use Rattle.gr_core.specs.Laws.ResolutionLaws.{touched, ActsTouchOneResolution, OnlyChangesOfTheRollTouchIt, ChangesOfTheRollTouchNothingElse, WithdrawalsAndMinorAmendmentsLeaveTheEnd}
use Rattle.gr_core.proofs.Collections.TableLemmas.{tied}
use Rattle.gr_core.proofs.Collections.PresenceLemmas.{not_false}
use Rattle.gr_core.proofs.Collections.PairKeys.{choice_only}
use Rattle.gr_core.proofs.Contents.SponsorLemmas.{sponsor_only}
use Rattle.gr_core.proofs.Contents.BallotKeys.{ballot_only}
use Rattle.gr_core.proofs.Contents.ChoiceLemmas.{IsChoiceOf, all_choices_of}
use Rattle.gr_core.proofs.Effects.LeftTableLemmas.{developers-effect}
use Rattle.gr_core.proofs.Collections.RowsPutLemmas.{is_among}
use Rattle.gr_core.proofs.Effects.LeftRowLemmas.{loss-resolutions, resolutions_left, choices_left, sponsors_left, ballots_left}

-- ==== whole tables

-- minor amendments and withdrawals leave the resolutions
pub leave_the_end : WithdrawalsAndMinorAmendmentsLeaveTheEnd
leave_the_end s at (Amend choice Minor wording) reply t minor step = ap (λ u. u.resolutions) step.2
leave_the_end s at (Withdraw choice) reply t minor step =
    let after = own s at (Withdraw choice) in
    ap (λ u. u.resolutions) step.2 ∙ loss-resolutions (becomes_short after choice) after at choice
leave_the_end s at (Unsponsor choice login) reply t minor step =
    let after = own s at (Unsponsor choice login) in
    ap (λ u. u.resolutions) step.2 ∙ loss-resolutions (becomes_short after choice) after at choice
leave_the_end s at (Amend choice Substantial wording) reply t minor step = absurd (not_false minor)
leave_the_end s at other reply t minor step = absurd (not_false minor)

-- other acts leave the roll
pub roll_left : OnlyChangesOfTheRollTouchIt
roll_left s at act reply t other step = ap (λ u. u.developers) step.2 ∙ developers-effect s at act other

-- changes of the roll leave all other tables
pub roll_changes_leave : ChangesOfTheRollTouchNothingElse
roll_changes_leave s at (SetDeveloper login name standing) reply t roll step = (
  ap (λ u. u.resolutions) step.2,
  ap (λ u. u.choices) step.2,
  ap (λ u. u.sponsors) step.2,
  ap (λ u. u.ballots) step.2,
)
roll_changes_leave s at (ImportRoll rows) reply t roll step = (
  ap (λ u. u.resolutions) step.2,
  ap (λ u. u.choices) step.2,
  ap (λ u. u.sponsors) step.2,
  ap (λ u. u.ballots) step.2,
)
roll_changes_leave s at other reply t roll step = absurd (not_false roll)

-- ==== the keys that an act puts

module _ {J : Type 0} {cmp : J → J → Ordering} (only : IsAntisymmetric cmp) where
  -- a key that is neither the first nor among the others is none of them
  not_first : (q key : J) (keys : List J) → (q ≡ key → ⊥) → is_among cmp q keys ≡ false
      → is_among cmp q (key ∷ keys) ≡ false
  not_first q key keys other rest =
      elim (eq_by_cmp cmp q key) as (λ b. eq_by_cmp cmp q key ≡ b → (b || is_among cmp q keys) ≡ false) [
        | true ↦ λ same. absurd (other (only q key (tied _ same)))
        | false ↦ λ differs. rest
      ] refl

  -- another key is not the only one
  not_only : (is : Bool) (q key : J) → (q ≡ key → ⊥) → is_among cmp q (only_if is key) ≡ false
  not_only true q key other = not_first q key [] other refl
  not_only false q key other = refl

-- a choice of another resolution is not among those of this one that pass a test
not_among-of : (q : ChoiceKey) (resolution : ℕ) (test : ChoiceKey × ChoiceModel → Bool)
    (es : List (ChoiceKey × ChoiceModel)) → (q.resolution ≡ resolution → ⊥)
    → AllByRecursion (λ e. resolution ≡ e.0.resolution) es
    → is_among choice_cmp q (map (λ e. e.0) (filter test es)) ≡ false
not_among-of q resolution test [] other all = refl
not_among-of q resolution test (e ∷ es) other all =
    let rest = not_among-of q resolution test es other all.1 in
    elim (test e) as (λ b.
    is_among choice_cmp q (map (λ e. e.0) (cond b (e ∷ filter test es) (filter test es))) ≡ false) [
      | true ↦ not_first choice_only q e.0 (map (λ e. e.0) (filter test es))
          (λ same. other (ap (λ k. k.resolution) same ∙ sym all.0)) rest
      | false ↦ rest
    ]

module _ (s : State) (at : ℕ) (q : ℕ) where
  -- the resolutions that an act puts are that which it touches
  resolutions_touched : (act : Act) → (touched s act ≡ Some q → ⊥)
      → is_among nat_cmp q (resolutions_put s at act) ≡ false
  resolutions_touched (Propose proposer wording ratio) other =
      not_only nat_cmp-IsAntisymmetric true q (next_resolution s) (λ same. other (ap Some (sym same)))
  resolutions_touched (AddChoice resolution proposer wording ratio) other =
      not_only nat_cmp-IsAntisymmetric
      (introduces s at (AddChoice resolution proposer wording ratio) (next_choice_key s resolution)) q resolution
      (λ same. other (ap Some (sym same)))
  resolutions_touched (Sponsor choice login) other =
      not_only nat_cmp-IsAntisymmetric (introduces s at (Sponsor choice login) choice) q choice.resolution
      (λ same. other (ap Some (sym same)))
  resolutions_touched (Adopt choice proposer) other =
      not_only nat_cmp-IsAntisymmetric (introduces s at (Adopt choice proposer) choice) q choice.resolution
      (λ same. other (ap Some (sym same)))
  resolutions_touched (Amend choice amendment wording) other =
      not_only nat_cmp-IsAntisymmetric
      (changes_ballot amendment (get s.resolutions choice.resolution) (get s.choices choice)) q choice.resolution
      (λ same. other (ap Some (sym same)))
  resolutions_touched (Vary resolution days) other =
      not_only nat_cmp-IsAntisymmetric true q resolution (λ same. other (ap Some (sym same)))
  resolutions_touched (Call resolution days) other =
      not_only nat_cmp-IsAntisymmetric true q resolution (λ same. other (ap Some (sym same)))
  resolutions_touched (Close resolution) other =
      not_only nat_cmp-IsAntisymmetric true q resolution (λ same. other (ap Some (sym same)))
  resolutions_touched (Cast resolution place) other =
      not_only nat_cmp-IsAntisymmetric true q resolution (λ same. other (ap Some (sym same)))
  resolutions_touched act other = refl

  -- the choices that an act puts are of that which it touches
  choices_touched : (act : Act) (number : ℕ) → (touched s act ≡ Some q → ⊥)
      → is_among choice_cmp (choice_key q number) (choices_put s at act) ≡ false
  choices_touched (Propose proposer wording ratio) number other =
      not_only choice_only true (choice_key q number) (first_choice_key s)
      (λ same. other (ap (λ k. Some k.resolution) (sym same)))
  choices_touched (AddChoice resolution proposer wording ratio) number other =
      not_only choice_only true (choice_key q number) (next_choice_key s resolution)
      (λ same. other (ap (λ k. Some k.resolution) (sym same)))
  choices_touched (Sponsor choice login) number other =
      not_only choice_only (is_gain (gain_at (own s at (Sponsor choice login)) choice)) (choice_key q number) choice
      (λ same. other (ap (λ k. Some k.resolution) (sym same)))
  choices_touched (Unsponsor choice login) number other =
      not_only choice_only (becomes_short (own s at (Unsponsor choice login)) choice) (choice_key q number) choice
      (λ same. other (ap (λ k. Some k.resolution) (sym same)))
  choices_touched (Withdraw choice) number other =
      not_only choice_only true (choice_key q number) choice (λ same. other (ap (λ k. Some k.resolution) (sym same)))
  choices_touched (Adopt choice proposer) number other =
      not_only choice_only true (choice_key q number) choice (λ same. other (ap (λ k. Some k.resolution) (sym same)))
  choices_touched (Amend choice amendment wording) number other =
      not_only choice_only true (choice_key q number) choice (λ same. other (ap (λ k. Some k.resolution) (sym same)))
  choices_touched (Call resolution days) number other =
      let of : AllByRecursion (λ e. resolution ≡ e.0.resolution) (choices_of s.choices resolution) =
      recursion_from_All (λ e. resolution ≡ e.0.resolution) (choices_of s.choices resolution)
      (All-weaker (IsChoiceOf s.choices resolution) (λ e. resolution ≡ e.0.resolution) (λ e is. is.0)
      (choices_of s.choices resolution) (all_choices_of s.choices resolution)) in
      not_among-of (choice_key q number) resolution (λ e. is_live at e.1) (choices_of s.choices resolution)
      (λ same. other (ap Some (sym same))) of
  choices_touched act number other = refl

  -- the sponsors that an act puts are of choices of that which it touches
  sponsors_touched : (act : Act) (number : ℕ) (login : List ℕ) → (touched s act ≡ Some q → ⊥)
      → is_among sponsor_cmp (choice_key q number, login) (sponsors_put s act) ≡ false
  sponsors_touched (Sponsor choice sponsor) number login other =
      not_only sponsor_only true (choice_key q number, login) (choice, sponsor)
      (λ same. other (ap (λ k. Some k.0.resolution) (sym same)))
  sponsors_touched (Unsponsor choice sponsor) number login other =
      not_only sponsor_only true (choice_key q number, login) (choice, sponsor)
      (λ same. other (ap (λ k. Some k.0.resolution) (sym same)))
  sponsors_touched (Adopt choice (Developer sponsor)) number login other =
      not_only sponsor_only (is_active_sponsor s.sponsors (choice, sponsor)) (choice_key q number, login) (choice, sponsor)
      (λ same. other (ap (λ k. Some k.0.resolution) (sym same)))
  sponsors_touched (Adopt choice Leader) number login other = refl
  sponsors_touched (Adopt choice Committee) number login other = refl
  sponsors_touched act number login other = refl

  -- the ballots that an act puts are of that which it touches
  ballots_touched : (act : Act) (login : List ℕ) → (touched s act ≡ Some q → ⊥)
      → is_among ballot_cmp (q, login) (ballots_put act) ≡ false
  ballots_touched (Vote resolution voter ranks token) login other =
      not_only ballot_only true (q, login) (resolution, voter) (λ same. other (ap (λ k. Some k.0) (sym same)))
  ballots_touched act login other = refl

-- ==== resolutions that an act does not touch

-- an act leaves each resolution but that which it touches
pub touches_one : ActsTouchOneResolution
touches_one s at act reply t resolution step other = record {
  row = ap (λ u. get u.resolutions resolution) step.2
      ∙ resolutions_left s at act resolution (resolutions_touched s at resolution act other);
  choices = λ number. ap (λ u. get u.choices (choice_key resolution number)) step.2
      ∙ choices_left s at act (choice_key resolution number) (choices_touched s at resolution act number other);
  sponsors = λ number login. ap (λ u. get u.sponsors (choice_key resolution number, login)) step.2
      ∙ sponsors_left s at act (choice_key resolution number, login)
      (sponsors_touched s at resolution act number login other);
  ballots = λ login. ap (λ u. get u.ballots (resolution, login)) step.2
      ∙ ballots_left s at act (resolution, login) (ballots_touched s at resolution act login other);
}
