use Rattle.std.proofs.Common.{◌≡◌, ℕ, ◌∙◌, Option, Some, None, map, refl, sym, string_bytes}
use denote.Ref.{Bor}
use Rattle.std.specs.Option.{option_copied}
use Rattle.gr_core.specs.Parts.Ballot.{ballot_model}
use Rattle.gr_core.specs.InMemory.Ballots.{ByVoter, ballot_entry}
use Rattle.gr_core.specs.InMemory.Table.{entries_in}
use Rattle.gr_core.proofs.Contents.PairwiseCountLemmas.{ballots_of-table}
use Rattle.gr_core.proofs.Collections.TwoLevels.{rows_in}
use Rattle.gr_core.proofs.ballots.Ballots.on_resolution.Goals as goal

rows_found : (resolution : ℕ) (found : Option (Bor ByVoter))
    → map (ballot_entry resolution) (entries_in found) ≡ rows_in string_bytes ballot_model resolution (option_copied found)
rows_found resolution None = refl
rows_found resolution (Some table) = refl

pub returns : goal.returns
returns c =
    rows_found c.args.resolution c.get.result
    ∙ sym (ballots_of-table c.self.inside.by_resolution c.self.invariant c.args.self.now c.self.view_is
    c.args.resolution (option_copied c.get.result) (sym c.get.ensures.value))
