use Rattle.std.proofs.Common.{◌≡◌, false, inl, IsSome, sym, ◌∙◌}
use Rattle.gr_count.specs.Rounds.{IsInOutcome}
use Rattle.gr_count.specs.Shown.{is_member}
use Rattle.gr_core.specs.Desks.Outcome.{place_count, IsPlace, HasWinner, option_at, election_at}
use Rattle.gr_core.proofs.Contents.ElectionLemmas.{has_winner, shows_winner, refused_unless}
use Rattle.gr_core.proofs.Collections.PresenceLemmas.{not_false}
use Rattle.gr_core.proofs.election.cannot_be_chosen.Goals as goal
use Rattle.gr_core.proofs.election.cannot_be_chosen.Goals.{then-has_place, else-has_place}

pub returns-then-is_some : goal.returns-then-is_some
returns-then-is_some c =
    let e = election_at c.args.tables.now c.args.resolution c.args.poll in
    let places = place_count c.args.tables.now.choices c.args.resolution in
    let some : IsSome c.winner.result = sym c.is_some.ensures ∙ c.if-is_some.true in (
      λ refused. inl (has_winner e places c.count_of-count.result c.count_of-count.ensures c.winner.result some
          c.winner.ensures.member c.winner.ensures.only),
      λ refused. c.if-is_some.true,
    )

pub returns-after-has_place : goal.returns-after-has_place
returns-after-has_place c =
    let s = c.args.tables.now in
    let e = election_at s c.args.resolution c.args.poll in
    let places = place_count s.choices c.args.resolution in
    let none : ¬ (HasWinner e) = λ has. not_false (sym c.if-is_some.false ∙ c.is_some.ensures
    ∙ shows_winner e places c.count_of-count.result c.count_of-count.ensures c.winner.result
    c.winner.ensures.there has) in
    refused_unless (HasWinner e)
    (IsPlace s c.args.resolution c.args.place × IsInOutcome e (option_at c.args.place)) c.if-has_place.result none
    (elim c.if-has_place.branch [
      | then-has_place w ↦
          let is : c.if-has_place.result ≡ is_member c.count_of-count.result (option_at c.args.place) =
          w.result-is ∙ w.in_set.ensures in (
            λ chosen. (
              c.has_place.ensures.0 w.if-has_place.true,
              (c.count_of-count.ensures.outcome (option_at c.args.place)).0 (sym is ∙ chosen),
            ),
            λ both. is ∙ (c.count_of-count.ensures.outcome (option_at c.args.place)).1 both.1,
          )
      | else-has_place w ↦
          let no_place : c.has_place.result ≡ false = w.if-has_place.false in (
            λ chosen. absurd (not_false (sym no_place ∙ sym w.result-is ∙ chosen)),
            λ both. absurd (not_false (sym no_place ∙ c.has_place.ensures.1 both.0)),
          )
    ])
