use Rattle.std.proofs.Common.{◌≡◌, ◌++◌, map}
use Rattle.std.specs.Prelude.{drop}
use Rattle.gr_http.specs.SentField.{found_values, sent}
use Rattle.gr_http.specs.Form.{values_in}
use Rattle.gr_http.proofs.form.Form.only_value.Given as goal

-- the value so far and those of the fields that are left are the values of all
abbrev pub invariant-loop-sent : goal.invariant-loop-sent
invariant-loop-sent l =
    found_values l.found ++ values_in (map sent (drop l.sent-index l.sent-items)) l.field ≡ values_in (map sent l.sent-items) l.field
