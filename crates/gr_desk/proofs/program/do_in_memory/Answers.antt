use Rattle.std.proofs.Common.{◌∙◌, Some, inl, inr, refl, sym}
use Rattle.gr_desk.proofs.BehindLemmas.{by_any_name}
use Rattle.gr_desk.proofs.ReadLemmas.{line_needed}
use Rattle.gr_desk.specs.Failure.{line_of}
use Rattle.gr_desk.specs.declared.failure.Failure.TheVariants as failures
use Rattle.gr_desk.proofs.program.do_in_memory.Goals as goal

pub returns-then-wants_a_file-clause-does : goal.returns-then-wants_a_file-clause-does
returns-then-wants_a_file-clause-does g c = (
  Some (line_of failures.NoFile),
  c.status_behind.ensures.said,
  inl (sym c.wants_a_file.ensures ∙ c.if-wants_a_file.true, (c.status_behind.ensures.status, refl), refl),
)

pub returns-clause-does : goal.returns-clause-does
returns-clause-does g c =
    let (said, says, does) = c.do_line.ensures.does in (
      said,
      says,
      inr (sym c.wants_a_file.ensures ∙ c.if-wants_a_file.false, (c.do_line.result.1, does)),
    )

pub returns-clause-needed : goal.returns-clause-needed
returns-clause-needed g c = line_needed c.args.line c.do_line.result.1 _ _ c.do_line.ensures.read

pub returns-clause-behind : goal.returns-clause-behind
returns-clause-behind g c =
    rw (c.host-1.given.1 (sym c.do_line.ensures.same_reference)) (by_any_name c.args.line _ _ c.do_line.ensures.behind)
