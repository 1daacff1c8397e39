-- Each text of the store is one statement, with its parameters: so each is read once, and compiled as a whole.
use Rattle.std.proofs.Common.{◌≡◌, ℕ, List, length, Option, Ok, Err, refl, subst, inl, inr}
use Rattle.std.proofs.lemmas.Bool.{cases_Bool}
use Rattle.sqlite_syntax.specs.declared.statement.Parsed.{Parsed}
use Rattle.sqlite_schema.specs.declared.schema.Schema.{Schema}
use Rattle.sqlite_schema.specs.declared.command.Command.{Command}
use Rattle.sqlite_schema.specs.declared.command.Returning.{Returning}
use Rattle.sqlite_resolve.specs.declared.compiled.Compiled.{Compiled}
use Rattle.sqlite_resolve.specs.Lowering.{Checked, and_then}
use Rattle.sqlite_resolve.specs.Scope.{Name}
use Rattle.sqlite_resolve.specs.Compile.{compiled, first, planned, with_command}
use Rattle.sqlite.specs.Listing.{understood, listing_schema, reads_listing}
use Rattle.gr_store.proofs.Connections.SelectRuns.{is_chosen}
use Rattle.sqlite_tied.specs.Compute.{everything}
use Rattle.gr_store.specs.Clears.{ballot1_clear}
use Rattle.gr_store.specs.Puts.{desk_put, developer_put, resolution_put, choice_put, sponsor_put, ballot_put}
use Rattle.gr_store.specs.Schema.{desk_text, developer_text, resolution_text, choice_text, sponsor_text, ballot_text}
use Rattle.gr_store.specs.Selects.{desk_select, developer_select, resolution_select, choice_select, sponsor_select, ballot_select, ballot1_select}

-- the text is one statement, with so many parameters
abbrev pub IsWhole : ℕ → List ℕ → Checked Parsed → Type 0
IsWhole count text (Ok p) = (p.tail ≡ length text) × (length p.names ≡ count)
IsWhole count text (Err e) = ⊥

abbrev pub IsOneText : ℕ → List ℕ → Type 0
IsOneText count text = IsWhole count text (first text)

-- it is compiled as that
abbrev pub ReadsWhole : ℕ → List ℕ → Compiled → Type 0
ReadsWhole count text c = (c.tail ≡ length text) × (length c.names ≡ count)

module _ (count : ℕ) (text : List ℕ) where
  whole_planned : (p : Parsed) (r : Checked (List Name × (Command × Option Returning))) (c : Compiled) → IsWhole count text (Ok p)
      → and_then r (λ plan. Ok (with_command p plan)) ≡ Ok c → ReadsWhole count text c
  whole_planned p (Ok plan) c is h = let same : with_command p plan ≡ c = cc in subst (ReadsWhole count text) same is
  whole_planned p (Err e) c is h = absurd (cc)

  whole_read : (schema : Schema) (r : Checked Parsed) (c : Compiled) → IsWhole count text r
      → and_then r (λ p. and_then (planned schema p) (λ plan. Ok (with_command p plan))) ≡ Ok c → ReadsWhole count text c
  whole_read schema (Ok p) c is h = whole_planned p (planned schema p) c is h
  whole_read schema (Err e) c is h = absurd is

  whole_compiled : (schema : Schema) (c : Compiled) → IsOneText count text → compiled schema text ≡ Ok c → ReadsWhole count text c
  unfolding compiled
  whole_compiled schema c is h = whole_read schema (first text) c is h

  pub whole : (schema : Schema) (c : Compiled) → IsOneText count text → understood schema text ≡ Ok c → ReadsWhole count text c
  unfolding understood
  whole schema c is h = elim (cases_Bool (reads_listing schema text)) [
    | inl listed ↦ whole_compiled listing_schema c is (is_chosen _ c (rw listed at h))
    | inr plain ↦ whole_compiled schema c is (rw plain at h)
  ]

pub desk_creates_one : IsOneText 0 desk_text
unfolding everything
desk_creates_one = (refl, refl)

pub developer_creates_one : IsOneText 0 developer_text
unfolding everything
developer_creates_one = (refl, refl)

pub resolution_creates_one : IsOneText 0 resolution_text
unfolding everything
resolution_creates_one = (refl, refl)

pub choice_creates_one : IsOneText 0 choice_text
unfolding everything
choice_creates_one = (refl, refl)

pub sponsor_creates_one : IsOneText 0 sponsor_text
unfolding everything
sponsor_creates_one = (refl, refl)

pub ballot_creates_one : IsOneText 0 ballot_text
unfolding everything
ballot_creates_one = (refl, refl)

pub desk_puts_one : IsOneText 4 desk_put
unfolding everything
desk_puts_one = (refl, refl)

pub developer_puts_one : IsOneText 3 developer_put
unfolding everything
developer_puts_one = (refl, refl)

pub resolution_puts_one : IsOneText 9 resolution_put
unfolding everything
resolution_puts_one = (refl, refl)

pub choice_puts_one : IsOneText 10 choice_put
unfolding everything
choice_puts_one = (refl, refl)

pub sponsor_puts_one : IsOneText 4 sponsor_put
unfolding everything
sponsor_puts_one = (refl, refl)

pub ballot_puts_one : IsOneText 5 ballot_put
unfolding everything
ballot_puts_one = (refl, refl)

pub desk_selects_one : IsOneText 0 desk_select
unfolding everything
desk_selects_one = (refl, refl)

pub developer_selects_one : IsOneText 0 developer_select
unfolding everything
developer_selects_one = (refl, refl)

pub resolution_selects_one : IsOneText 0 resolution_select
unfolding everything
resolution_selects_one = (refl, refl)

pub choice_selects_one : IsOneText 0 choice_select
unfolding everything
choice_selects_one = (refl, refl)

pub sponsor_selects_one : IsOneText 0 sponsor_select
unfolding everything
sponsor_selects_one = (refl, refl)

pub ballot_selects_one : IsOneText 0 ballot_select
unfolding everything
ballot_selects_one = (refl, refl)

pub ballot1_selects_one : IsOneText 0 ballot1_select
unfolding everything
ballot1_selects_one = (refl, refl)

pub ballot1_clears_one : IsOneText 0 ballot1_clear
unfolding everything
ballot1_clears_one = (refl, refl)
