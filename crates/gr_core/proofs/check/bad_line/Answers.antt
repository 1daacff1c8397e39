use Rattle.std.proofs.Common.{◌≡◌, ℕ, List, Option, Some, None, IfNone, IsSomeAnd, map, subst}
use Rattle.gr_core.specs.Machine.Act.{act_of, import_of}
use Rattle.gr_core.specs.Machine.Import.{RollRow, roll_row, HasNoBadRow, IsFirstBadLine}
use Rattle.gr_core.proofs.check.bad_line.Goals as goal

none_first : (found : Option ℕ) (rows : List RollRow) → IfNone found (HasNoBadRow rows) → IfNone found ((line : ℕ) → ¬ (IsFirstBadLine rows line))
none_first (Some line) rows good = tt
none_first None rows good = λ line first. good first.others first.behind

pub returns-clause-none : goal.returns-clause-none
returns-clause-none c =
    let rows = map roll_row c.in_ok-import.field-0.now in
    let is : Some rows ≡ import_of (act_of c.args.command.now) = c.in_ok-import.ensures in
    subst (λ o. IfNone c.first_bad_line.result ((line : ℕ) → ¬ (IsSomeAnd o (λ rows. IsFirstBadLine rows line)))) is
    (none_first c.first_bad_line.result rows c.first_bad_line.ensures.none)
