use Rattle.std.proofs.Common.{◌≡◌, ℕ, List, Option, ap, sym, ◌∙◌, string_bytes}
use Rattle.std.specs.Option.{option_and_then, option_copied}
use Rattle.std.specs.FinMap as finite
use Rattle.std.specs.BTreeMap.{get_by, get_by_text}
use Rattle.std.proofs.lemmas.Iterator.Adapters.{option_map_id}
use Rattle.gr_core.specs.declared.choice.ChoiceKey.{ChoiceKey}
use Rattle.gr_core.specs.declared.sponsor.Sponsorship.{Sponsorship}
use Rattle.gr_core.specs.Parts.Key.{choice_cmp, text_cmp}
use Rattle.gr_core.specs.InMemory.Table.{table_of}
use Rattle.gr_core.specs.InMemory.Sponsors.{ByLogin, ByChoice, AreSponsorsOrdered, sponsors_of}
use Rattle.gr_core.proofs.Collections.TextKeys.{text_total, text_only}
use Rattle.gr_core.proofs.Collections.PairKeys.{choice_total, choice_only}
use Rattle.gr_core.proofs.Collections.TableLemmas.{get-table_of}
use Rattle.gr_core.proofs.Collections.TwoLevels.{get-two_levels}
use Rattle.gr_core.proofs.sponsors.Sponsors.get.Goals as goal

-- what the choice's table has under the login
abbrev found_in : List ℕ → Option ByLogin → Option Sponsorship
found_in login = option_and_then (λ sponsors. get_by_text sponsors login)

get_by_text-is : (sponsors : ByLogin) (login : List ℕ)
    → get_by_text sponsors login ≡ finite.get (table_of text_cmp string_bytes (λ row. row) sponsors) login
get_by_text-is sponsors login =
    sym (get-table_of text_total text_only string_bytes (λ row. row) sponsors login ∙ option_map_id (get_by_text sponsors login))

-- the row of a login stands in the choice's table
get-sponsors_of : (m : ByChoice) → AreSponsorsOrdered m → (choice : ChoiceKey) (login : List ℕ)
    → found_in login (get_by (choice_cmp choice) m) ≡ finite.get (sponsors_of m) (choice, login)
get-sponsors_of m ordered choice login =
    (λ i. option_and_then (λ sponsors. get_by_text-is sponsors login i) (get_by (choice_cmp choice) m))
    ∙ sym (get-two_levels choice_total choice_only text_total text_only (λ key. key) string_bytes (λ row. row) m ordered.outer choice login)

pub returns-in_err-get : goal.returns-in_err-get
returns-in_err-get c =
    c.from_residual.ensures
    ∙ ap (found_in c.args.login.now) (sym (ap option_copied c.in_err-get.was) ∙ c.get.ensures.value)
    ∙ get-sponsors_of c.self.inside.by_choice c.self.invariant c.args.choice c.args.login.now
    ∙ ap (λ sponsors. finite.get sponsors (c.args.choice, c.args.login.now)) c.self.view_is

pub returns : goal.returns
returns c =
    c.copied.ensures
    ∙ c.get-2.ensures.value
    ∙ ap (found_in c.args.login.now) (sym (ap option_copied c.in_ok-get.was) ∙ c.get.ensures.value)
    ∙ get-sponsors_of c.self.inside.by_choice c.self.invariant c.args.choice c.args.login.now
    ∙ ap (λ sponsors. finite.get sponsors (c.args.choice, c.args.login.now)) c.self.view_is
