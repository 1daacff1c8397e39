use Rattle.std.proofs.Common.{None, Option, Some, arith, codes, subst, sym, ◌∙◌, ◌≡◌, ℕ, List}
use Rattle.std.specs.Str.Parse.{ParsesUnsigned, ExplainsUnsignedError, HasUnsignedDigitsIfOk}
use Rattle.clap.specs.Matches.{found_of, one_text}
use Rattle.clap.specs.Walk.{Row, one_of, rows_of}
use Rattle.clap.proofs.WalkLemmas.{one_text-rows}
use Rattle.gr_desk.specs.declared.limits.TheConstants.{MAX_AT}
use Rattle.gr_desk.specs.Words.{HasMoment, HasNumberWithin}
use Rattle.gr_desk.proofs.SubcommandLemmas.{none_read}
use Rattle.gr_desk.proofs.WordLemmas.{reads_within}
use Rattle.gr_desk.proofs.words.moment.Goals as goal

-- what is read is the moment that the words have, or none
read_so : (rows : List Row) (given : Option (List ℕ)) (read : Option ℕ) → given ≡ one_of (codes "at") rows
    → (given ≡ None → read ≡ None) → ((at : ℕ) → HasNumberWithin 0 MAX_AT rows (codes "at") at → read ≡ Some at)
    → (at : Option ℕ) → HasMoment rows at → HasMoment rows read
read_so rows given read same none some None absent =
    subst (HasMoment rows) (sym (none (same ∙ none_read rows (codes "at") absent))) absent
read_so rows given read same none some (Some at) is = subst (HasMoment rows) (sym (some at is)) is

pub returns : goal.returns
returns c =
    let found = found_of c.args.matches.now in
    let same = one_text-rows found (codes "at") in
    read_so (rows_of found) (one_text found (codes "at")) c.get_one.result same c.get_one.ensures.none (λ at.
    reads_within (λ bs r. ParsesUnsigned 64 10 bs r × ExplainsUnsignedError 10 bs r × HasUnsignedDigitsIfOk bs r) (λ t x g. g.0)
    (one_text found (codes "at")) c.get_one.result c.get_one.ensures.value (rows_of found) (codes "at") same 0 MAX_AT at
    (omega arith)) c.requires.0 c.requires.1
