-- Two rows of the table `resolution` are alike where their columns are.
use Rattle.std.proofs.Common.{◌≡◌, ◌&&◌, Bool, true, ℤ, refl}
use Rattle.std.specs.Ordering.{int_eq}
use Rattle.std.specs.Cmp.{signed_Decides}
use Rattle.std.proofs.lemmas.Bool.{and_from, and_parts}
use Rattle.gr_core.specs.declared.rows.ResolutionRow.{ResolutionRow}
use Rattle.gr_core.specs.Columns.Stored.{fields_of_resolution}

-- what `==` answers
abbrev pub are_alike : ResolutionRow → ResolutionRow → Bool
are_alike a b =
    int_eq a.number b.number
    && (int_eq a.stage b.stage
    && (int_eq a.start b.start
    && (int_eq a.changed b.changed
    && (int_eq a.shift b.shift
    && (int_eq a.called b.called
    && (int_eq a.days b.days
    && (int_eq a.devs b.devs
    && int_eq a.chosen b.chosen)))))))

-- a row by its columns
abbrev of_columns : (number stage start changed shift called days devs chosen : ℤ) → ResolutionRow
of_columns number stage start changed shift called days devs chosen = record {
  number = number;
  stage = stage;
  start = start;
  changed = changed;
  shift = shift;
  called = called;
  days = days;
  devs = devs;
  chosen = chosen;
}

pub alike-by_columns : (a b : ResolutionRow) → fields_of_resolution a ≡ fields_of_resolution b → a ≡ b
alike-by_columns a b same =
    let rows : of_columns a.number a.stage a.start a.changed a.shift a.called a.days a.devs a.chosen
    ≡ of_columns b.number b.stage b.start b.changed b.shift b.called b.days b.devs b.chosen = cc in
    rows

equal : (x y : ℤ) → int_eq x y ≡ true → x ≡ y
equal x y alike = (signed_Decides x y).0 alike

itself : (x : ℤ) → int_eq x x ≡ true
itself x = (signed_Decides x x).1 refl

pub alike-by_answer : (a b : ResolutionRow) → are_alike a b ≡ true → a ≡ b
alike-by_answer a b answer =
    let first = and_parts _ _ answer in
    let second = and_parts _ _ first.1 in
    let third = and_parts _ _ second.1 in
    let fourth = and_parts _ _ third.1 in
    let fifth = and_parts _ _ fourth.1 in
    let sixth = and_parts _ _ fifth.1 in
    let seventh = and_parts _ _ sixth.1 in
    let eighth = and_parts _ _ seventh.1 in
    let number = equal a.number b.number first.0 in
    let stage = equal a.stage b.stage second.0 in
    let start = equal a.start b.start third.0 in
    let changed = equal a.changed b.changed fourth.0 in
    let shift = equal a.shift b.shift fifth.0 in
    let called = equal a.called b.called sixth.0 in
    let days = equal a.days b.days seventh.0 in
    let devs = equal a.devs b.devs eighth.0 in
    let chosen = equal a.chosen b.chosen eighth.1 in
    let rows : of_columns a.number a.stage a.start a.changed a.shift a.called a.days a.devs a.chosen
    ≡ of_columns b.number b.stage b.start b.changed b.shift b.called b.days b.devs b.chosen = cc in
    rows

pub alike-itself : (a : ResolutionRow) → are_alike a a ≡ true
alike-itself a =
    and_from _ _ (itself a.number) (and_from _ _ (itself a.stage) (and_from _ _ (itself a.start)
    (and_from _ _ (itself a.changed) (and_from _ _ (itself a.shift) (and_from _ _ (itself a.called)
    (and_from _ _ (itself a.days) (and_from _ _ (itself a.devs) (itself a.chosen))))))))
