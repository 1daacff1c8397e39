-- A desk stays valid where the row of one choice changes in a way that it may, and its resolution with it.
use Rattle.std.proofs.Common.{◌≡◌, ℕ, ◌<◌, ◌⊎◌, inl, inr, true, false, cond, length, List, Option, Some, None, option_map, is_some, IsSome, IsSomeAnd, refl, sym, ap, ◌∙◌, subst}
use Rattle.std.specs.declared.cmp.Ordering.{Ordering}
use Rattle.std.specs.Ordering.{eq_by_cmp}
use Rattle.std.specs.Cmp.{IsTotalOrder, nat_cmp_total, eq_by_cmp_equiv}
use Rattle.std.specs.FinMap.{FinMap, IsAntisymmetric, get, nat_cmp-IsAntisymmetric}
use Rattle.gr_core.specs.declared.resolution.Resolution.{Resolution}
use Rattle.gr_core.specs.declared.choice.ChoiceKey.{ChoiceKey}
use Rattle.gr_core.specs.declared.sponsor.Sponsorship.{Sponsorship}
use Rattle.gr_core.specs.Parts.Key.{choice_cmp}
use Rattle.gr_core.specs.Machine.Map.{changed_at, changed_where}
use Rattle.gr_core.specs.Parts.Resolution.{discussion_of, poll_of}
use Rattle.gr_core.specs.Parts.Choice.{ChoiceModel, choice_key}
use Rattle.gr_core.specs.Desks.State.{State}
use Rattle.gr_core.specs.Desks.Valid.{AreTables, IsResolution, IsChoice, IsSponsorship, HasIntroduced, up_to}
use Rattle.gr_core.proofs.Collections.TableLemmas.{tied}
use Rattle.gr_core.proofs.Collections.PresenceLemmas.{not_false, given, taken}
use Rattle.gr_core.proofs.Collections.PairKeys.{choice_total, choice_only}
use Rattle.gr_core.proofs.Collections.RowPutLemmas.{insert-there}
use Rattle.gr_core.proofs.Collections.RowChangedLemmas.{get-changed_at, get-changed_at_other}
use Rattle.gr_core.proofs.Contents.KeptRowLemmas.{places_of-altered}
use Rattle.gr_core.proofs.Validity.StageLemmas.{Becomes, stays, resolution-kept, choice-kept}
use Rattle.gr_core.proofs.Validity.AlteredLemmas.{keeps_numbers, altered-valid}

-- the row under this key changed, and the others left
abbrev pub only_at : ChoiceKey → (ChoiceModel → ChoiceModel) → ChoiceKey → ChoiceModel → ChoiceModel
only_at key f q row = cond (eq_by_cmp choice_cmp q key) (f row) row

-- a fact of a row that holds changed and unchanged
only_at-either : (key : ChoiceKey) (f : ChoiceModel → ChoiceModel) (q : ChoiceKey) (row : ChoiceModel)
    (P : ChoiceModel → Type 0)
    → (q ≡ key → P (f row)) → P row → P (only_at key f q row)
only_at-either key f q row P there here =
    elim (eq_by_cmp choice_cmp q key) as (λ b. eq_by_cmp choice_cmp q key ≡ b → P (cond b (f row) row)) [
      | true ↦ λ same. there (choice_only q key (tied _ same))
      | false ↦ λ other. here
    ] refl

-- each row of the changed table is one that was there, changed if it is under the key
rows-changed : (choices : FinMap choice_cmp ChoiceModel) (key : ChoiceKey) (f : ChoiceModel → ChoiceModel) (q : ChoiceKey)
    → get (changed_at choices key f) q ≡ option_map (only_at key f q) (get choices q)
rows-changed choices key f q =
    elim (eq_by_cmp choice_cmp q key) as (λ b. eq_by_cmp choice_cmp q key ≡ b
    → get (changed_at choices key f) q ≡ option_map (λ row. cond b (f row) row) (get choices q)) [
      | true ↦ λ same.
          let one = choice_only q key (tied _ same) in
          ap (get (changed_at choices key f)) one ∙ get-changed_at choice_total choice_only choices key f
          ∙ ap (λ k. option_map f (get choices k)) (sym one)
      | false ↦ λ other.
          get-changed_at_other choice_total choice_only choices key q f
          (λ one. not_false (sym other ∙ ap (λ k. eq_by_cmp choice_cmp k key) one
          ∙ (eq_by_cmp_equiv choice_total).refl key))
          ∙ unchanged (get choices q)
    ] refl
  where
    unchanged : (o : Option ChoiceModel) → o ≡ option_map (λ row. row) o
    unchanged None = refl
    unchanged (Some row) = refl

-- choices of other resolutions stay
off-changed : (key : ChoiceKey) (f : ChoiceModel → ChoiceModel) (q : ChoiceKey) (row : ChoiceModel)
    → (q.resolution ≡ key.resolution → ⊥) → only_at key f q row ≡ row
off-changed key f q row other = only_at-either key f q row (λ r. r ≡ row)
    (λ same. absurd (other (ap (λ k. k.resolution) same))) refl

-- how the row of a choice may change by f while its resolution changes by g
pub record MayChange (clock : ℕ) (s : State) (key : ChoiceKey) (g : Resolution → Resolution)
    (f : ChoiceModel → ChoiceModel) : Type 0 where
  pub place : (row : ChoiceModel) → (f row).place ≡ row.place
  pub introduced : (row : ChoiceModel) → IsSome row.introduced → IsSome (f row).introduced
  pub becomes : (old : Resolution) → IsResolution clock s key.resolution old → Becomes clock old (g old)
  pub poll : (old : Resolution) → poll_of (g old) ≡ poll_of old
  pub discussed : (old : Resolution) → get s.resolutions key.resolution ≡ Some old → IsSome (discussion_of (g old))
      → IsSome (discussion_of old) ⊎ IsSomeAnd (get s.choices key) (λ row. IsSome (f row).introduced)
  pub choice : (row : ChoiceModel) (old : Resolution) → get s.choices key ≡ Some row
      → IsResolution clock s key.resolution old
      → IsChoice clock s.developers old row → IsChoice clock s.developers (g old) (f row)
  pub sponsor : (row : ChoiceModel) (login : List ℕ) (sponsorship : Sponsorship)
      → get s.sponsors (key, login) ≡ Some sponsorship
      → IsSponsorship s.developers row login sponsorship → IsSponsorship s.developers (f row) login sponsorship

module _ (clock : ℕ) (s : State) (key : ChoiceKey) (g : Resolution → Resolution) (f : ChoiceModel → ChoiceModel)
    (valid : AreTables clock s) (may : MayChange clock s key g f) where
  -- the desk with both changed
  abbrev changed_desk : State
  changed_desk = record s {
    resolutions = changed_at s.resolutions key.resolution g;
    choices = changed_at s.choices key f;
  }

  -- an introduced choice stays so
  introduced-kept : (number : ℕ)
      → IsSomeAnd (get s.choices (choice_key key.resolution number)) (λ row. IsSome row.introduced)
      → HasIntroduced changed_desk key.resolution
  introduced-kept number is =
      let q = choice_key key.resolution number in
      let row = taken (get s.choices q) (λ row. IsSome row.introduced) is in
      record {
        number = number;
        found = given (get (changed_at s.choices key f) q) (λ row. IsSome row.introduced) (only_at key f q row.0)
            (rows-changed s.choices key f q ∙ ap (option_map (only_at key f q)) row.1)
            (only_at-either key f q row.0 (λ r. IsSome r.introduced) (λ same. may.introduced row.0 row.2) row.2);
      }

  -- the changed choice is one that is introduced
  introduced-now : IsSomeAnd (get s.choices key) (λ row. IsSome (f row).introduced)
      → HasIntroduced changed_desk key.resolution
  introduced-now is =
      let row = taken (get s.choices key) (λ row. IsSome (f row).introduced) is in
      record {
        number = key.number;
        found = given (get (changed_at s.choices key f) key) (λ row. IsSome row.introduced) (f row.0)
            (get-changed_at choice_total choice_only s.choices key f ∙ ap (option_map f) row.1) row.2;
      }

  -- the changed resolution may stand under its number
  resolution-changed : (old : Resolution) → get s.resolutions key.resolution ≡ Some old
      → IsResolution clock changed_desk key.resolution (g old)
  resolution-changed old is =
      let was = valid.resolutions key.resolution old is in
      let same = places_of-altered s.choices (changed_at s.choices key f) (only_at key f) (rows-changed s.choices key f)
      (λ q row. only_at-either key f q row (λ r. r.place ≡ row.place) (λ one. may.place row) refl) key.resolution
      in
      resolution-kept clock s changed_desk key.resolution old (g old)
      (keeps_numbers clock s key.resolution g (changed_at s.choices key f) (only_at key f)
      (rows-changed s.choices key f) (off-changed key f) key.resolution)
      (may.becomes old was)
      (λ polled.
      let before = ap is_some (sym (may.poll old)) ∙ polled in
      record {
        places = subst (λ these. these ≡ up_to (length these)) (sym same) (was.places before);
        placed = subst (λ these. 0 < length these) (sym same) (was.placed before);
      })
      (λ discussed. elim (may.discussed old is discussed) [
        | inl before ↦ (let found = was.introduced before in introduced-kept found.number found.found)
        | inr now ↦ introduced-now now
      ])
      was

  -- the desk stays valid
  pub changed-valid : AreTables clock changed_desk
  changed-valid =
      altered-valid clock s key.resolution g (changed_at s.choices key f) (only_at key f)
      (rows-changed s.choices key f) (off-changed key f)
      valid resolution-changed
      (λ q row old is there was.
      let resolution = valid.resolutions key.resolution old there in
      only_at-either key f q row (IsChoice clock s.developers (g old))
      (λ same. may.choice row old (ap (get s.choices) (sym same) ∙ is) resolution was)
      (choice-kept clock s.developers old (g old) row (may.becomes old resolution) was))
      (λ q row login sponsorship is there was.
      only_at-either key f q row (λ r. IsSponsorship s.developers r login sponsorship)
      (λ same. may.sponsor row login sponsorship (ap (λ k. get s.sponsors (k, login)) (sym same) ∙ there) was)
      was)

-- a change that changes nothing
pub changed_at-same : {J R : Type 0} {cmp : J → J → Ordering} → IsTotalOrder cmp → IsAntisymmetric cmp
    → (m : FinMap cmp R) (key : J)
    → changed_at m key (λ row. row) ≡ m
changed_at-same total only m key =
    elim (get m key) as (λ o. get m key ≡ o → changed_where m key (λ row. row) o ≡ m) [
      | None ↦ λ is. refl
      | Some row ↦ λ is. insert-there total only m key row is
    ] refl

-- how the row of a choice may change by f alone
pub record MayChangeAlone (clock : ℕ) (s : State) (key : ChoiceKey) (f : ChoiceModel → ChoiceModel) : Type 0 where
  pub place : (row : ChoiceModel) → (f row).place ≡ row.place
  pub introduced : (row : ChoiceModel) → IsSome row.introduced → IsSome (f row).introduced
  pub choice : (row : ChoiceModel) (old : Resolution) → get s.choices key ≡ Some row
      → IsChoice clock s.developers old row → IsChoice clock s.developers old (f row)
  pub sponsor : (row : ChoiceModel) (login : List ℕ) (sponsorship : Sponsorship)
      → get s.sponsors (key, login) ≡ Some sponsorship
      → IsSponsorship s.developers row login sponsorship → IsSponsorship s.developers (f row) login sponsorship

-- one choice changed, the resolutions left
pub choice_changed-valid : (clock : ℕ) (s : State) (key : ChoiceKey) (f : ChoiceModel → ChoiceModel) → AreTables clock s
    → MayChangeAlone clock s key f
    → AreTables clock (record s { choices = changed_at s.choices key f })
choice_changed-valid clock s key f valid may =
    subst (λ resolutions. AreTables clock
    (record s { resolutions = resolutions; choices = changed_at s.choices key f }))
    (changed_at-same nat_cmp_total nat_cmp-IsAntisymmetric s.resolutions key.resolution)
    (changed-valid clock s key (λ old. old) f valid (record {
      place = may.place;
      introduced = may.introduced;
      becomes = λ old was. stays clock s key.resolution old was;
      poll = λ old. refl;
      discussed = λ old is discussed. inl discussed;
      choice = λ row old is resolution was. may.choice row old is was;
      sponsor = may.sponsor;
    }))
