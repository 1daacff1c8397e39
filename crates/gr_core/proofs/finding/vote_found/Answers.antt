use Rattle.std.proofs.Common.{map, sym, ap, ◌∙◌, subst}
use Rattle.std.specs.Result.{is_ok}
use Rattle.std.proofs.lemmas.List.{length-map}
use Rattle.std.specs.FinMap.{get}
use Rattle.gr_count.specs.Ballot.{character_of, mark_of}
use Rattle.gr_core.specs.Desks.Outcome.{place_count}
use Rattle.gr_core.specs.Parts.Ballot.{AreRanks}
use Rattle.gr_core.specs.Machine.Act.{Vote}
use Rattle.gr_core.proofs.Columns.RanksLemmas.{text-of-marks, marks-of-text}
use Rattle.gr_core.proofs.finding.vote_found.Goals as goal

-- the characters of the ranks that were read are those of the text
pub returns-clause-act : goal.returns-clause-act
returns-clause-act c =
    let text = c.args.ranks.now in
    let is = c.ranks_of.ensures.ok.0 (ap is_ok c.in_ok-ranks.was) in
    let written = ap (map character_of) c.in_ok-ranks.ensures.marks ∙ text-of-marks text is.1 in
    ap (λ ranks. Vote c.args.resolution c.args.login.now ranks c.args.token.now) written

-- and they are those of a ballot with the places of the resolution
pub returns-clause-found : goal.returns-clause-found
returns-clause-found c at =
    let text = c.args.ranks.now in
    let is = c.ranks_of.ensures.ok.0 (ap is_ok c.in_ok-ranks.was) in
    let marks = c.in_ok-ranks.ensures.marks in (
      subst (AreRanks (place_count c.args.tables.now.choices c.args.resolution)) (sym marks)
          (record { whole = length-map text mark_of ∙ is.0; marks = marks-of-text text is.1 }),
      c.get.ensures ∙ ap (λ ballots. get ballots (c.args.resolution, c.args.login.now)) c.ballots.ensures,
    )
