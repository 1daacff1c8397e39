-- Which sheet of a desk is shown, and when one is refused (this project's profile).
use Rattle.std.specs.Prelude.{◌≡◌, ℕ, List, Bool, true, false, None, IsSomeAnd, IsTrue, codes}
use Rattle.std.specs.FinMap.{get}
use Rattle.gr_core.specs.declared.refusal.Refusal.{Refusal}
use Rattle.gr_core.specs.declared.refusal.Refusal.TheVariants.{NoResolution, NotRevealed}
use Rattle.gr_core.specs.Parts.Resolution.{is_closed}
use Rattle.gr_core.specs.Desks.State.{State}
use Rattle.gr_sheet.specs.declared.kind.Kind.{Kind}
use Rattle.gr_sheet.specs.declared.kind.Kind.TheVariants as kinds
use Rattle.gr_core.specs.Machine.Refusal.{printed}
use Rattle.gr_sheet.specs.declared.no_sheet.NoSheet.{NoSheet}
use Rattle.gr_sheet.specs.declared.no_sheet.NoSheet.TheVariants as missing
use Rattle.gr_sheet.specs.RollSheet.{roll_sheet}
use Rattle.gr_sheet.specs.StatusSheet.{status_sheet}
use Rattle.gr_sheet.specs.TallySheet.{IsTally}
use Rattle.gr_sheet.specs.ResultSheet.{IsResultOf}

-- The text is the sheet of this kind: that of the roll, whatever the number, or that of the resolution with this
-- number. There is a tally and a result of one that is closed (Constitution, 4.2.3).
abbrev pub IsSheet : State → Kind → ℕ → List ℕ → Type 0
IsSheet s kinds.Roll number text = text ≡ roll_sheet s
IsSheet s kinds.Status number text = IsSomeAnd (get s.resolutions number) (λ row. text ≡ status_sheet s number row)
IsSheet s kinds.Tally number text =
    IsSomeAnd (get s.resolutions number) (λ row. IsTrue (is_closed row) × IsTally s number text)
IsSheet s kinds.Result number text = IsSomeAnd (get s.resolutions number) (λ row. IsResultOf s number row text)

-- the sheet is one of a resolution
abbrev pub is_of_resolution : Kind → Bool
is_of_resolution kinds.Roll = false
is_of_resolution other = true

-- it shows what ballots say
abbrev pub shows_ballots : Kind → Bool
shows_ballots kinds.Tally = true
shows_ballots kinds.Result = true
shows_ballots other = false

-- The wish for a sheet is refused: there is no resolution with this number; or the sheet shows what its ballots say,
-- and its vote is not closed (Constitution, 4.2.3).
abbrev pub IsRefused : State → Kind → ℕ → Refusal → Type 0
IsRefused s kind number NoResolution = IsTrue (is_of_resolution kind) × (get s.resolutions number ≡ None)
IsRefused s kind number NotRevealed =
    IsTrue (shows_ballots kind) × IsSomeAnd (get s.resolutions number) (λ row. is_closed row ≡ false)
IsRefused s kind number other = ⊥

-- There is no sheet of this kind: the wish for it is refused, or memory was wanted for one that is not.
abbrev pub IsMissing : State → Kind → ℕ → NoSheet → Type 0
IsMissing s kind number (missing.Refused refusal) = IsRefused s kind number refusal
IsMissing s kind number missing.Memory = (refusal : Refusal) → ¬ (IsRefused s kind number refusal)

-- what is printed of a missing sheet
abbrev pub no_sheet_text : NoSheet → List ℕ
no_sheet_text (missing.Refused refusal) = printed refusal
no_sheet_text missing.Memory = codes "out of memory"
