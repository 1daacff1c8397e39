use Rattle.std.proofs.Common.{◌≡◌, ℕ, List, Option, ap, sym, ◌∙◌, option_map, string_bytes}
use Rattle.std.specs.Ordering.{nat_cmp}
use Rattle.std.specs.Cmp.{nat_cmp_total}
use Rattle.std.specs.Option.{option_and_then, option_copied}
use Rattle.std.specs.FinMap.{nat_cmp-IsAntisymmetric}
use Rattle.std.specs.FinMap as finite
use Rattle.std.specs.BTreeMap.{get_by, get_by_text}
use Rattle.gr_core.specs.Parts.Ballot.{BallotModel, ballot_model}
use Rattle.gr_core.specs.InMemory.Ballots.{ByVoter, ByResolution, AreBallotsOrdered, ballot_map}
use Rattle.gr_core.proofs.Collections.TextKeys.{text_total, text_only}
use Rattle.gr_core.proofs.Collections.TableLemmas.{get-table_of}
use Rattle.gr_core.proofs.Collections.TwoLevels.{get-two_levels}
use Rattle.gr_core.proofs.ballots.Ballots.get.Goals as goal

-- what the resolution's table has under the login
abbrev found_in : List ℕ → Option ByVoter → Option BallotModel
found_in login = option_and_then (λ ballots. option_map ballot_model (get_by_text ballots login))

-- the ballot of a login stands in the resolution's table
get-ballot_map : (m : ByResolution) → AreBallotsOrdered m → (resolution : ℕ) (login : List ℕ)
    → found_in login (get_by (nat_cmp resolution) m) ≡ finite.get (ballot_map m) (resolution, login)
get-ballot_map m ordered resolution login =
    (λ i. option_and_then
    (λ ballots. sym (get-table_of text_total text_only string_bytes ballot_model ballots login) i)
    (get_by (nat_cmp resolution) m))
    ∙ sym (get-two_levels nat_cmp_total nat_cmp-IsAntisymmetric text_total text_only (λ key. key) string_bytes
    ballot_model m ordered.outer resolution login)

pub returns-in_err-get : goal.returns-in_err-get
returns-in_err-get c =
    ap (option_map ballot_model) c.from_residual.ensures
    ∙ ap (found_in c.args.login.now) (sym (ap option_copied c.in_err-get.was) ∙ c.get.ensures.value)
    ∙ get-ballot_map c.self.inside.by_resolution c.self.invariant c.args.resolution c.args.login.now
    ∙ ap (λ ballots. finite.get ballots (c.args.resolution, c.args.login.now)) c.self.view_is

pub returns : goal.returns
returns c =
    ap (option_map ballot_model) (c.copied.ensures ∙ c.get-2.ensures.value)
    ∙ ap (found_in c.args.login.now) (sym (ap option_copied c.in_ok-get.was) ∙ c.get.ensures.value)
    ∙ get-ballot_map c.self.inside.by_resolution c.self.invariant c.args.resolution c.args.login.now
    ∙ ap (λ ballots. finite.get ballots (c.args.resolution, c.args.login.now)) c.self.view_is
