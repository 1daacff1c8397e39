-- Tables that are taken one after the other.
use Rattle.std.proofs.Common.{◌≡◌, ℕ, Bool, false, true≢false, List, [], Result, Ok, Err, OnOk, sym, subst, ◌∙◌}
use Rattle.std.specs.Prelude.{◌↔◌, IsTrue}
use Rattle.std.proofs.lemmas.List.{map-id}
use Rattle.gr_core.specs.declared.intake.Intake.{Intake}
use Rattle.gr_core.specs.Columns.Fields.{Field}
use Rattle.gr_core.specs.Columns.Intake.{HasTaken, as_it_is, nothing_taken, with_more}
use Rattle.gr_core.specs.Columns.Stored.{TableName, DeskTable, DeveloperTable, ResolutionTable, ChoiceTable, SponsorTable, BallotTable}
use Rattle.gr_core.specs.Columns.Stored.{Stored}
use Rattle.sqlite.specs.Effect.{Database}
use Rattle.gr_core.specs.declared.rows.HeaderRow.{HeaderRow}
use Rattle.gr_store.specs.Holds.{HasHeaderRow, IsAlone, SelectsOthersBy}
use Rattle.gr_store.specs.Selects.{HasOneAnswer, desk_select, developer_select, resolution_select, choice_select, sponsor_select}
use Rattle.gr_store.specs.Takes.{TakesAnswer, TakesOthers}
use Rattle.gr_store.proofs.TableRows.EachTable.{others_selected}
use Rattle.gr_store.proofs.StoredDesks.NoSuchDesk.{has_none}

pub when_ok : {A E P Q : Type 0} (r : Result A E) → (P → Q) → OnOk r P → OnOk r Q
when_ok (Ok x) f p = f p
when_ok (Err e) f p = tt

-- what was taken of a database is taken of the same one
pub taken_of : (text : List ℕ) (place : TableName) (meant : List Field → List Field) (now was : Database) (old new : Intake)
    → now ≡ was → TakesAnswer text place meant now old new → TakesAnswer text place meant was old new
taken_of text place meant now was old new same = subst (λ db. TakesAnswer text place meant db old new) same

-- rows that are taken as they are
pub plainly : (text : List ℕ) (place : TableName) (db : Database) (old new : Intake)
    → (it : TakesAnswer text place as_it_is db old new) → (before : Stored) → HasTaken before old
    → HasTaken (with_more place before it.rows) new
plainly text place db old new it before has =
    subst (λ rows. HasTaken (with_more place before rows) new) (map-id it.rows) (it.taken before has)

-- where no such row of the table `desk` was taken, the database has none
pub row_told : (IsSuch : HeaderRow → Type 0) (db : Database) (old new : Intake) (is_such : Bool) → HasOneAnswer desk_select db
    → TakesAnswer desk_select DeskTable as_it_is db old new → HasTaken nothing_taken old
    → ((rows : Stored) → HasTaken rows new → (IsTrue is_such ↔ IsAlone IsSuch rows.desk)) → is_such ≡ false
    → ¬ (HasHeaderRow IsSuch db)
row_told IsSuch db old new is_such one desk begun tells none =
    has_none IsSuch db desk.rows one desk.selected
    (λ such. true≢false (sym ((tells _ (plainly _ _ db old new desk nothing_taken begun)).1 such) ∙ none))

pub five_taken : (text : List ℕ) (meant : List Field → List Field) (db : Database) (a b c d e f : Intake)
    → TakesAnswer developer_select DeveloperTable as_it_is db a b
    → TakesAnswer resolution_select ResolutionTable as_it_is db b c
    → TakesAnswer choice_select ChoiceTable as_it_is db c d → TakesAnswer sponsor_select SponsorTable as_it_is db d e
    → TakesAnswer text BallotTable meant db e f → TakesOthers text meant db a f
five_taken text meant db a b c d e f developers resolutions choices sponsors ballots = record {
  rows = record {
    desk = [];
    developers = developers.rows;
    resolutions = resolutions.rows;
    choices = choices.rows;
    sponsors = sponsors.rows;
    ballots = ballots.rows;
  };
  selected = others_selected text _ db developers.selected resolutions.selected choices.selected sponsors.selected
      ballots.selected;
  taken = λ before has.
      ballots.taken _ (plainly _ _ db d e sponsors _ (plainly _ _ db c d choices _ (plainly _ _ db b c resolutions _
      (plainly _ _ db a b developers before has))));
}

-- the rows of the table `desk`, and those of the others
abbrev pub both : List (List Field) → Stored → Stored
both desk others = record others { desk = desk }

-- what was taken, of the table `desk` and of the others
pub both_taken : (text : List ℕ) (db : Database) (a b : Intake) (desk : List (List Field))
    → HasTaken (with_more DeskTable nothing_taken desk) a → (others : TakesOthers text as_it_is db a b)
    → HasTaken (both desk others.rows) b
both_taken text db a b desk before others =
    subst (λ ballots. HasTaken (record (both desk others.rows) { ballots = ballots }) b) (map-id others.rows.ballots)
    (others.taken _ before)

pub both_selected : (text : List ℕ) (db : Database) (desk : List (List Field)) (others : Stored)
    → SelectsOthersBy text others db → SelectsOthersBy text (both desk others) db
both_selected text db desk others selected =
    others_selected text (both desk others) db (selected DeveloperTable tt) (selected ResolutionTable tt)
    (selected ChoiceTable tt) (selected SponsorTable tt) (selected BallotTable tt)
