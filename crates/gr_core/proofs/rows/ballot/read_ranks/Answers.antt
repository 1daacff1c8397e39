use Rattle.std.proofs.Common.{◌≡◌, ◌≤◌, length, true, false, refl, sym, ap, ◌∙◌, subst}
use Rattle.std.specs.List.{All}
use Rattle.std.specs.Result.{is_ok}
use Rattle.std.proofs.lemmas.List.{length-map}
use Rattle.gr_count.specs.declared.limits.TheConstants.{MAX_OPTIONS, MIN_OPTIONS}
use Rattle.gr_count.specs.Ballot.{IsMarkCharacter, mark_of}
use Rattle.gr_core.specs.Parts.Ballot.{IsMark}
use Rattle.gr_core.specs.Columns.Fields.{ranks_text}
use Rattle.gr_core.proofs.Columns.RanksLemmas.{characters-of-marks, text-of-marks, marks-of-text}
use Rattle.gr_core.proofs.rows.ballot.read_ranks.Goals as goal

pub returns-in-Ok-clause-ok : goal.returns-in-Ok-clause-ok
returns-in-Ok-clause-ok c =
    let bytes = c.as_bytes-bytes.result.now in
    let is = c.read.ensures.ok.0 (ap is_ok c.in-Ok.is) in
    ap ranks_text c.in-Ok.ensures.marks ∙ text-of-marks bytes is.1 ∙ c.as_bytes-bytes.ensures.value

pub returns-in-Ok-clause-kept : goal.returns-in-Ok-clause-kept
returns-in-Ok-clause-kept c =
    let bytes = c.as_bytes-bytes.result.now in
    let is = c.read.ensures.ok.0 (ap is_ok c.in-Ok.is) in
    let marks = c.in-Ok.ensures.marks in
    let options = ap length marks ∙ length-map bytes mark_of in
    record {
      enough = subst (λ n. MIN_OPTIONS ≤ n) (sym options) c.if-bytes-lt-MIN_OPTIONS.false;
      few = subst (λ n. n ≤ MAX_OPTIONS) (sym options) c.if-bytes-gt-MAX_OPTIONS.false;
      marks = subst (All IsMark) (sym marks) (marks-of-text bytes is.1);
    }

pub returns-in-Err-clause-err : goal.returns-in-Err-clause-err
returns-in-Err-clause-err c failed ranks fits same =
    let read = c.read.ensures.ok.1 (
      refl,
      subst (All IsMarkCharacter) (same ∙ sym c.as_bytes-bytes.ensures.value) (characters-of-marks ranks fits.marks),
    ) in
    absurd (let never : true ≡ false = sym read ∙ ap is_ok c.in-Err.is in cc)
