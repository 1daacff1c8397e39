use Rattle.std.proofs.Common.{◌≡◌, ◌++◌, map}
use Rattle.form_urlencoded.specs.Form.{raw_pairs}
use Rattle.form_urlencoded.specs.Parse.{raw_pairs_left}
use Rattle.gr_http.specs.declared.field.Field.{Field}
use Rattle.gr_http.specs.Field.{field_name}
use Rattle.gr_http.specs.SentField.{sent}
use Rattle.gr_http.specs.Form.{values_in, values_of}
use Rattle.gr_http.proofs.form.Form.read.Given as goal

-- the values of the fields so far, and those of the pairs that are left, are the values of the form
abbrev pub invariant-loop-name : goal.invariant-loop-name
invariant-loop-name l =
    (goal.iterator-loop-name).can_next l.name-iterator
    × (goal.iterator-loop-name).is_finite l.name-iterator
    × ((which : Field) → values_in (map sent l.fields.items) which
    ++ values_of (field_name which) (raw_pairs_left l.name-iterator) ≡ values_of (field_name which) (raw_pairs l.bytes))
