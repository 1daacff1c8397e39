use Rattle.std.proofs.Common.{◌≡◌, [], ◌∷◌, Err, refl, string_bytes, rules}
use Rattle.sqlite_value.specs.declared.value.Value.TheVariants.{Int, Text}
use Rattle.gr_store.specs.Columns.{choice_kinds}
use Rattle.gr_store.proofs.TableRows.RowColumns.{row_is, unread_number, unread_text}
use Rattle.gr_store.proofs.tables.choice.ChoiceRowSelectedRow.read.Goals as goal

pub returns-in_err-get-6-clause-unreadable : goal.returns-in_err-get-6-clause-unreadable
returns-in_err-get-6-clause-unreadable c =
    let is : c.from_residual-in_err-get-6.result ≡ Err c.in_err-get-6.field-0.0 = search rules in
    rw is (unread_text choice_kinds c.args.row.now 5 _ refl c.in_err-get-6.ensures.kind)

pub returns-in_err-get-7-clause-unreadable : goal.returns-in_err-get-7-clause-unreadable
returns-in_err-get-7-clause-unreadable c =
    let is : c.from_residual-in_err-get-7.result ≡ Err c.in_err-get-7.field-0.0 = search rules in
    rw is (unread_number choice_kinds c.args.row.now 6 _ refl c.in_err-get-7.ensures.kind)

pub returns-in_err-get-8-clause-unreadable : goal.returns-in_err-get-8-clause-unreadable
returns-in_err-get-8-clause-unreadable c =
    let is : c.from_residual-in_err-get-8.result ≡ Err c.in_err-get-8.field-0.0 = search rules in
    rw is (unread_number choice_kinds c.args.row.now 7 _ refl c.in_err-get-8.ensures.kind)

pub returns-in_err-get-9-clause-unreadable : goal.returns-in_err-get-9-clause-unreadable
returns-in_err-get-9-clause-unreadable c =
    let is : c.from_residual-in_err-get-9.result ≡ Err c.in_err-get-9.field-0.0 = search rules in
    rw is (unread_number choice_kinds c.args.row.now 8 _ refl c.in_err-get-9.ensures.kind)

pub returns-in_err-get-10-clause-unreadable : goal.returns-in_err-get-10-clause-unreadable
returns-in_err-get-10-clause-unreadable c =
    let is : c.from_residual-in_err-get-10.result ≡ Err c.in_err-get-10.field-0.0 = search rules in
    rw is (unread_number choice_kinds c.args.row.now 9 _ refl c.in_err-get-10.ensures.kind)

pub returns-clause-ok : goal.returns-clause-ok
returns-clause-ok c =
    let values =
    Int c.in_ok-get.field-0 ∷ Int c.in_ok-get-2.field-0 ∷ Int c.in_ok-get-3.field-0
    ∷ Text (string_bytes c.in_ok-get-4.field-0) ∷ Text (string_bytes c.in_ok-get-5.field-0)
    ∷ Text (string_bytes c.in_ok-get-6.field-0) ∷ Int c.in_ok-get-7.field-0 ∷ Int c.in_ok-get-8.field-0
    ∷ Int c.in_ok-get-9.field-0 ∷ Int c.in_ok-get-10.field-0 ∷ [] in
    let is : values ≡ c.args.row.now = row_is values c.args.row.now c.in_ok-has_columns.ensures.ok (
      c.in_ok-get.ensures.ok.1,
      (
        c.in_ok-get-2.ensures.ok.1,
        (
          c.in_ok-get-3.ensures.ok.1,
          (
            c.in_ok-get-4.ensures.ok.1,
            (
              c.in_ok-get-5.ensures.ok.1,
              (
                c.in_ok-get-6.ensures.ok.1,
                (
                  c.in_ok-get-7.ensures.ok.1,
                  (
                    c.in_ok-get-8.ensures.ok.1,
                    (
                      c.in_ok-get-9.ensures.ok.1,
                      (
                        c.in_ok-get-10.ensures.ok.1,
                        tt,
                      ),
                    ),
                  ),
                ),
              ),
            ),
          ),
        ),
      ),
    ) in
    search (rules, is)
