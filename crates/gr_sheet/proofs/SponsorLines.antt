-- The line of a choice's sponsors.
use Rattle.std.proofs.Common.{◌≡◌, ℕ, true, false, cond, List, [], ◌∷◌, ◌++◌, map, length, count_by, String, string_bytes, refl, sym, ap, ◌∙◌, codes, decimal}
use Rattle.std.specs.Prelude.{filter}
use Rattle.std.specs.declared.alloc.Global.{Global}
use Rattle.std.specs.List.{flat_map}
use Rattle.std.proofs.lemmas.List.{append_assoc, length-map}
use Rattle.std.proofs.lemmas.List.Sums.{length-filter}
use Rattle.gr_core.specs.declared.choice.ChoiceKey.{ChoiceKey}
use Rattle.gr_core.specs.declared.sponsor.Sponsorship.{Sponsorship}
use Rattle.gr_core.specs.Parts.Key.{SponsorKey}
use Rattle.gr_core.specs.Parts.Sponsor.{is_active}
use Rattle.gr_core.specs.InMemory.Sponsors.{sponsor_entry}
use Rattle.gr_core.proofs.Collections.CountLemmas.{count-map}
use Rattle.gr_sheet.specs.StatusSheet.{active_logins, sponsors_line}
use Rattle.gr_sheet.proofs.AppendLemmas.{flat_map-filter, flat_map-map}

abbrev Entry : Type 0
Entry = String Global × Sponsorship

-- the login of an active sponsor, after a space
abbrev pub login_if_active : Entry → List ℕ
login_if_active entry = cond (is_active entry.1) (codes " " ++ string_bytes entry.0) []

active_count : (es : List Entry) → count_by is_active (map (λ e. e.1) es) ≡ length (active_logins es)
active_count es =
    count-map is_active (λ e. e.1) es
    ∙ sym (length-filter (λ (e : Entry). is_active e.1) es)
    ∙ sym (length-map (filter (λ (e : Entry). is_active e.1) es) (λ e. string_bytes e.0))

logins : (es : List Entry) → flat_map login_if_active es ≡ flat_map (λ login. codes " " ++ login) (active_logins es)
logins es =
    flat_map-filter (λ (e : Entry). codes " " ++ string_bytes e.0) (λ e. is_active e.1) es
    ∙ sym (flat_map-map (λ login. codes " " ++ login) (λ (e : Entry). string_bytes e.0) (filter (λ e. is_active e.1) es))

-- the count and the logins, with the end of the line, are the line
pub sponsors_told : (old : List ℕ) (es : List Entry)
    → (old ++ (codes "Sponsors: " ++ (decimal (count_by is_active (map (λ e. e.1) es)) ++ flat_map login_if_active es))) ++ codes "\n"
    ≡ old ++ sponsors_line (active_logins es)
sponsors_told old es =
    append_assoc old (codes "Sponsors: " ++ (decimal (count_by is_active (map (λ e. e.1) es)) ++ flat_map login_if_active es)) (codes "\n")
    ∙ ap (λ line. old ++ (codes "Sponsors: " ++ line))
    (append_assoc (decimal (count_by is_active (map (λ e. e.1) es))) (flat_map login_if_active es) (codes "\n")
    ∙ (λ i. decimal (active_count es i) ++ (logins es i ++ codes "\n")))

active_entries : (choice : ChoiceKey) (es : List Entry)
    → active_logins es ≡ map (λ entry. entry.0.1) (filter (λ entry. is_active entry.1) (map (sponsor_entry choice) es))
active_entries choice [] = refl
active_entries choice (e ∷ es) =
    let rows = map (sponsor_entry choice) es in
    elim (is_active e.1) as (λ b.
    map (λ (entry : Entry). string_bytes entry.0)
    (cond b (e ∷ filter (λ (entry : Entry). is_active entry.1) es) (filter (λ (entry : Entry). is_active entry.1) es))
    ≡ map (λ (entry : SponsorKey × Sponsorship). entry.0.1)
    (cond b (sponsor_entry choice e ∷ filter (λ entry. is_active entry.1) rows) (filter (λ entry. is_active entry.1) rows))) [
      | true ↦ ap (λ logins. string_bytes e.0 ∷ logins) (active_entries choice es)
      | false ↦ active_entries choice es
    ]

-- the active sponsors of a choice are those among the entries of its rows
pub active_among : (choice : ChoiceKey) (es : List Entry) {rows : List (SponsorKey × Sponsorship)} → map (sponsor_entry choice) es ≡ rows
    → active_logins es ≡ map (λ entry. entry.0.1) (filter (λ entry. is_active entry.1) rows)
active_among choice es same =
    active_entries choice es ∙ ap (λ rows. map (λ entry. entry.0.1) (filter (λ entry. is_active entry.1) rows)) same
