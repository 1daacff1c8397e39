use Rattle.std.proofs.Common.{◌∙◌}
use Rattle.gr_http.proofs.RollFileRows.{no-login, no-name, no-status, row-of, row-texts}
use Rattle.gr_http.proofs.roll_file.row_in.Goals as goal

pub returns-in_default-from_utf8 : goal.returns-in_default-from_utf8
returns-in_default-from_utf8 c =
    no-login _ _ _ _ c.in-Some.ensures.some c.in_default-from_utf8.ensures.cases.0

pub returns-in_default-from_utf8-2 : goal.returns-in_default-from_utf8-2
returns-in_default-from_utf8-2 c =
    no-name _ _ _ _ c.in-Some.ensures.some c.in-Ok.ensures.cases.1 c.in_default-from_utf8-2.ensures.cases.0

pub returns-in_default-from_utf8-3 : goal.returns-in_default-from_utf8-3
returns-in_default-from_utf8-3 c =
    no-status _ _ _ _ c.in-Some.ensures.some c.in-Ok.ensures.cases.1 c.in-Ok-from_utf8.ensures.cases.1 c.in_default-from_utf8-3.ensures.cases.0

pub returns : goal.returns
returns c =
    let login = c.in-Ok.ensures.cases in
    let name = c.in-Ok-from_utf8.ensures.cases in
    let status = c.in-Ok-from_utf8-2.ensures.cases in
    row-texts _ _ _ _ _ _ _ (c.in_ok-from_str.ensures.ok ∙ login.0) (c.in_ok-from_str-2.ensures.ok ∙ name.0)
    (c.in_ok-from_str-3.ensures.ok ∙ status.0) (row-of _ _ _ _ c.in-Some.ensures.some login.1 name.1 status.1)
