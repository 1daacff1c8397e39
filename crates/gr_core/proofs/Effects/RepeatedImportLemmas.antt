-- Imports that come again.
use Rattle.std.proofs.Common.{◌≡◌, ℕ, Bool, true, false, cond, List, [], ◌∷◌, length, Option, Some, None, is_some, refl, sym, ap, ◌∙◌}
use Rattle.std.specs.Prelude.{◌||◌, ◌&&◌}
use Rattle.std.specs.List.{filter, count_by}
use Rattle.std.specs.FinMap.{FinMap, get, get-insert}
use Rattle.std.specs.Ordering.{eq_by_cmp}
use Rattle.std.proofs.lemmas.List.Sums.{length-filter}
use Rattle.std.proofs.lemmas.Slice.Eq.{bytes_eq-Decides}
use Rattle.gr_core.specs.declared.developer.Standing.{Standing}
use Rattle.gr_core.specs.declared.developer.Standing.TheVariants.{Current, Retired}
use Rattle.gr_core.specs.declared.import.Novelty.{Novelty}
use Rattle.gr_core.specs.declared.import.Novelty.TheVariants.{Added, Changed, Same}
use Rattle.gr_core.specs.declared.reply.Reply.{Reply}
use Rattle.gr_core.specs.declared.reply.Note.TheVariants.{Roll}
use Rattle.gr_core.specs.declared.refusal.Refusal.TheVariants.{BadRoll}
use Rattle.gr_core.specs.Parts.Key.{text_cmp}
use Rattle.gr_core.specs.Parts.Developer.{DeveloperModel}
use Rattle.gr_core.specs.Machine.Import.{RollRow, developer_in, imported, has_login, novelty, novelty_to, is_same_standing, is_same_developer, is_same_novelty, row_count, counts_of}
use Rattle.gr_core.specs.Desks.State.{State}
use Rattle.gr_core.specs.Machine.Act.{Act, SetDeveloper, ImportRoll}
use Rattle.gr_core.specs.Machine.Effect.{effect}
use Rattle.gr_core.specs.Machine.Step.{Answer, Accepted, Refused}
use Rattle.gr_core.specs.Machine.Run.{After}
use Rattle.gr_core.specs.Laws.MachineLaws.{changes_roll, ImportsAddOnce, ImportsChangeOnce}
use Rattle.gr_core.proofs.Collections.TextKeys.{text_total, text_only}
use Rattle.gr_core.proofs.Collections.RowPutLemmas.{insert-there}
use Rattle.gr_core.proofs.Effects.LeftTableLemmas.{developers-effect}
use Rattle.gr_core.proofs.Effects.RollAfterImportLemmas.{EachRow, behind_first, or_true, login_of_row, get-imported}
use Rattle.gr_core.proofs.Effects.ImportLemmas.{is_some-cond, is_some-imported, no_bad_row-from_none}

none_pass : (test : RollRow → Bool) (rows : List RollRow) → EachRow (λ row. test row ≡ false) rows → filter test rows ≡ []
none_pass test [] each = refl
none_pass test (row ∷ rows) each =
    ap (λ b. cond b (row ∷ filter test rows) (filter test rows)) (each [] row rows refl)
    ∙ none_pass test rows (behind_first (λ r. test r ≡ false) row rows each)

all_pass : (test : RollRow → Bool) (rows : List RollRow) → EachRow (λ row. test row ≡ true) rows → filter test rows ≡ rows
all_pass test [] each = refl
all_pass test (row ∷ rows) each =
    ap (λ b. cond b (row ∷ filter test rows) (filter test rows)) (each [] row rows refl)
    ∙ ap (λ rs. row ∷ rs) (all_pass test rows (behind_first (λ r. test r ≡ true) row rows each))

count-none : (test : RollRow → Bool) (rows : List RollRow) → EachRow (λ row. test row ≡ false) rows → count_by test rows ≡ 0
count-none test rows each = sym (length-filter test rows) ∙ ap length (none_pass test rows each)

count-all : (test : RollRow → Bool) (rows : List RollRow) → EachRow (λ row. test row ≡ true) rows → count_by test rows ≡ length rows
count-all test rows each = sym (length-filter test rows) ∙ ap length (all_pass test rows each)

-- an act that is no change of the roll leaves who is on it
roll_kept : (s : State) (at : ℕ) (act : Act) (login : List ℕ) → changes_roll act ≡ false → is_some (get s.developers login) ≡ true
    → is_some (get (effect s at act).developers login) ≡ true
roll_kept s at act login other there =
    ap (λ (developers : FinMap text_cmp DeveloperModel). is_some (get developers login)) (developers-effect s at act other) ∙ there

-- a login that is on the roll stays there
on_roll_after : (s : State) (at : ℕ) (act : Act) (login : List ℕ) → is_some (get s.developers login) ≡ true
    → is_some (get (effect s at act).developers login) ≡ true
on_roll_after s at (SetDeveloper other name standing) login there =
    let row : DeveloperModel = record { name = name; standing = standing } in
    ap is_some (get-insert text_total s.developers other row login)
    ∙ is_some-cond (eq_by_cmp text_cmp login other) row (get s.developers login)
    ∙ ap (λ b. eq_by_cmp text_cmp login other || b) there
    ∙ or_true (eq_by_cmp text_cmp login other)
on_roll_after s at (ImportRoll rows) login there =
    is_some-imported s.developers rows login ∙ ap (λ b. has_login login rows || b) there ∙ or_true (has_login login rows)
on_roll_after s at other login there = roll_kept s at other login refl there

stays_on_roll : (s : State) (acts : List (ℕ × Act)) (answers : List Answer) (t : State) (login : List ℕ)
    → After s acts answers t → is_some (get s.developers login) ≡ true → is_some (get t.developers login) ≡ true
stays_on_roll s [] [] t login after there = ap (λ (u : State). is_some (get u.developers login)) after ∙ there
stays_on_roll s [] (x ∷ xs) t login after there = absurd after
stays_on_roll s (act ∷ acts) [] t login after there = absurd after
stays_on_roll s (act ∷ acts) (Accepted reply ∷ xs) t login after there =
    stays_on_roll after.0 acts xs t login after.2
    (ap (λ (u : State). is_some (get u.developers login)) after.1.2 ∙ on_roll_after s act.0 act.1 login there)
stays_on_roll s (act ∷ acts) (Refused refusal ∷ xs) t login after there =
    stays_on_roll after.0 acts xs t login after.2 (ap (λ (u : State). is_some (get u.developers login)) after.1.1 ∙ there)

not_added : (found : Option DeveloperModel) (row : DeveloperModel) → is_some found ≡ true → is_same_novelty (novelty_to found row) Added ≡ false
not_added None row there = absurd (let never : false ≡ true = there in cc)
not_added (Some found) row there =
    elim (is_same_developer found row) as (λ b. is_same_novelty (cond b Same Changed) Added ≡ false) [ true ↦ refl | false ↦ refl ]

pub add_once : ImportsAddOnce
add_once s t u v at later rows first again acts answers import after second =
    let imported_is = ap (λ (w : State). w.developers) import.2 in
    let there : EachRow (λ row. is_some (get u.developers row.login) ≡ true) rows = λ others row rest whole.
    stays_on_roll t acts answers u row.login after
    (ap (λ m. is_some (get m row.login)) imported_is
    ∙ is_some-imported s.developers rows row.login
    ∙ ap (λ b. b || is_some (get s.developers row.login)) (login_of_row rows others row rest whole))
    in (
      counts_of u.developers rows,
      ap (λ reply. reply.note) second.1,
      count-none (λ row. is_same_novelty (novelty u.developers row) Added) rows
          (λ others row rest whole. not_added (get u.developers row.login) (developer_in row) (there others row rest whole)),
    )

standing_itself : (standing : Standing) → is_same_standing standing standing ≡ true
standing_itself Current = refl
standing_itself Retired = refl

itself : (row : DeveloperModel) → is_same_developer row row ≡ true
itself row = ap (λ b. b && is_same_standing row.standing row.standing) ((bytes_eq-Decides row.name row.name).1 refl) ∙ standing_itself row.standing

unchanged : (row : DeveloperModel) → novelty_to (Some row) row ≡ Same
unchanged row = ap (λ b. cond b Same Changed) (itself row)

imported-there : (m : FinMap text_cmp DeveloperModel) (rows : List RollRow) → EachRow (λ row. get m row.login ≡ Some (developer_in row)) rows
    → imported m rows ≡ m
imported-there m [] each = refl
imported-there m (row ∷ rows) each =
    ap (λ n. imported n rows) (insert-there text_total text_only m row.login (developer_in row) (each [] row rows refl))
    ∙ imported-there m rows (behind_first (λ r. get m r.login ≡ Some (developer_in r)) row rows each)

pub change_once : ImportsChangeOnce
change_once s t u at later rows first again import second =
    let good = no_bad_row-from_none rows (λ line. import.0 (BadRoll line)) in
    let imported_is = ap (λ (w : State). w.developers) import.2 in
    let there : EachRow (λ row. get t.developers row.login ≡ Some (developer_in row)) rows = λ others row rest whole.
    ap (λ m. get m row.login) imported_is ∙ get-imported s.developers rows good others row rest whole
    in
    let same : EachRow (λ row. novelty t.developers row ≡ Same) rows = λ others row rest whole.
    ap (λ found. novelty_to found (developer_in row)) (there others row rest whole) ∙ unchanged (developer_in row)
    in
    let none : (k : Novelty) → is_same_novelty Same k ≡ false → row_count t.developers rows k ≡ 0 = λ k other.
    count-none (λ row. is_same_novelty (novelty t.developers row) k) rows
    (λ others row rest whole. ap (λ found. is_same_novelty found k) (same others row rest whole) ∙ other)
    in
    let all : row_count t.developers rows Same ≡ length rows =
    count-all (λ row. is_same_novelty (novelty t.developers row) Same) rows
    (λ others row rest whole. ap (λ found. is_same_novelty found Same) (same others row rest whole))
    in (
      ap (λ (reply : Reply). reply.note) second.1 ∙ (λ i. Roll (record { added = none Added refl i; changed = none Changed refl i; same = all i })),
      ap (λ (w : State). w.developers) second.2 ∙ imported-there t.developers rows there,
    )
