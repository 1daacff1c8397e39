-- The sponsors in memory, as a finite map by choice and login.
use Rattle.std.specs.Prelude.{List, string_bytes, String}
use Rattle.std.specs.String.{string_cmp}
use Rattle.std.specs.FinMap.{FinMap}
use Rattle.std.specs.BTreeMap.{BTreeMap}
use Rattle.std.specs.declared.alloc.Global.{Global}
use Rattle.gr_core.specs.declared.choice.ChoiceKey.{ChoiceKey}
use Rattle.gr_core.specs.declared.sponsor.Sponsorship.{Sponsorship}
use Rattle.gr_core.specs.Parts.Key.{SponsorKey, text_cmp, choice_cmp, sponsor_cmp}
use Rattle.gr_core.specs.InMemory.Table.{flat_rows, two_levels_of, AreOrdered}

-- the sponsors of one choice
abbrev pub ByLogin : Type 0
ByLogin = BTreeMap (String Global) Sponsorship

-- the sponsors of each choice
abbrev pub ByChoice : Type 0
ByChoice = BTreeMap ChoiceKey ByLogin

-- the rows of the sponsors, each under its choice and its login
abbrev pub sponsor_rows : List (ChoiceKey × ByLogin) → List (SponsorKey × Sponsorship)
sponsor_rows = flat_rows (λ choice. choice) string_bytes (λ sponsorship. sponsorship)

-- the row of an entry of a choice's sponsors, under the choice and the login
abbrev pub sponsor_entry : ChoiceKey → String Global × Sponsorship → SponsorKey × Sponsorship
sponsor_entry choice entry = ((choice, string_bytes entry.0), entry.1)

-- the sponsors that the entries make
abbrev pub sponsors_of : ByChoice → FinMap sponsor_cmp Sponsorship
sponsors_of = two_levels_of choice_cmp text_cmp (λ choice. choice) string_bytes (λ sponsorship. sponsorship)

-- the choices are in order, and the logins of each choice
abbrev pub AreSponsorsOrdered : ByChoice → Type 0
AreSponsorsOrdered = AreOrdered choice_cmp string_cmp
