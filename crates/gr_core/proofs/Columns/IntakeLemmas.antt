-- Rows that are taken one at a time: what each does to what an intake knows of them.
use Rattle.std.proofs.Common.{◌≡◌, ◌++◌, ◌∷◌, [], List, Result, Ok, Err, IfOk, IsErrAnd, OnOk, refl, sym, ap, ◌∙◌, subst, append-nil}
use Rattle.std.proofs.lemmas.List.{append_assoc}
use Rattle.std.specs.FinMap.{FinMap}
use Rattle.std.specs.Ordering.{nat_cmp}
use Rattle.gr_core.specs.declared.header.Header.{Header}
use Rattle.gr_core.specs.declared.resolution.Resolution.{Resolution}
use Rattle.gr_core.specs.declared.sponsor.Sponsorship.{Sponsorship}
use Rattle.gr_core.specs.declared.intake.Condition.{Condition}
use Rattle.gr_core.specs.declared.intake.Condition.TheVariants.{Kept, Damaged, Spent}
use Rattle.gr_core.specs.declared.intake.Intake.{Intake}
use Rattle.gr_core.specs.declared.intake.header_rows.HeaderRows.{HeaderRows}
use Rattle.gr_core.specs.Parts.Key.{text_cmp, choice_cmp, sponsor_cmp, ballot_cmp}
use Rattle.gr_core.specs.Parts.Developer.{DeveloperModel}
use Rattle.gr_core.specs.Parts.Choice.{ChoiceModel}
use Rattle.gr_core.specs.Parts.Ballot.{BallotModel}
use Rattle.gr_core.specs.Desks.State.{State}
use Rattle.gr_core.specs.Columns.Fields.{Field, developer_fields, resolution_fields, choice_fields, sponsor_fields, ballot_fields}
use Rattle.gr_core.specs.Columns.Stored.{Stored, AreRowsOf, Fits, HasRows}
use Rattle.gr_core.specs.Columns.Stored.{IsRollOf, AreResolutionsOf, AreChoicesOf, AreSponsorsOf, AreBallotsOf}
use Rattle.gr_core.specs.Columns.Stored.{HaveNoRoll, HaveNoResolutions, HaveNoChoices, HaveNoSponsors, HaveNoBallots}
use Rattle.gr_core.specs.Columns.Stored.{TableName, DeskTable, DeveloperTable, ResolutionTable, ChoiceTable, SponsorTable, BallotTable}
use Rattle.gr_core.specs.Columns.Intake.{with_more, joined, nothing_taken, AreHeaderRows, AreKept, AreDamaged, HasBecome, HasTaken, IsHeaderOf, taken_with}

-- ==== rows after others

pub with_none : (table : TableName) (rows : Stored) → with_more table rows [] ≡ rows
with_none DeskTable rows = ap (λ l. record rows { desk = l }) (append-nil rows.desk)
with_none DeveloperTable rows = ap (λ l. record rows { developers = l }) (append-nil rows.developers)
with_none ResolutionTable rows = ap (λ l. record rows { resolutions = l }) (append-nil rows.resolutions)
with_none ChoiceTable rows = ap (λ l. record rows { choices = l }) (append-nil rows.choices)
with_none SponsorTable rows = ap (λ l. record rows { sponsors = l }) (append-nil rows.sponsors)
with_none BallotTable rows = ap (λ l. record rows { ballots = l }) (append-nil rows.ballots)

pub with_both : (table : TableName) (rows : Stored) (more last : List (List Field))
    → with_more table (with_more table rows more) last ≡ with_more table rows (more ++ last)
with_both DeskTable rows more last = ap (λ l. record rows { desk = l }) (append_assoc rows.desk more last)
with_both DeveloperTable rows more last = ap (λ l. record rows { developers = l }) (append_assoc rows.developers more last)
with_both ResolutionTable rows more last = ap (λ l. record rows { resolutions = l }) (append_assoc rows.resolutions more last)
with_both ChoiceTable rows more last = ap (λ l. record rows { choices = l }) (append_assoc rows.choices more last)
with_both SponsorTable rows more last = ap (λ l. record rows { sponsors = l }) (append_assoc rows.sponsors more last)
with_both BallotTable rows more last = ap (λ l. record rows { ballots = l }) (append_assoc rows.ballots more last)

joined_nothing : (rows : Stored) → joined rows nothing_taken ≡ rows
joined_nothing rows =
    ap (λ l. record (joined rows nothing_taken) { desk = l }) (append-nil rows.desk)
    ∙ ap (λ l. record (joined rows nothing_taken) { desk = rows.desk; developers = l }) (append-nil rows.developers)
    ∙ ap (λ l. record (joined rows nothing_taken) { desk = rows.desk; developers = rows.developers; resolutions = l }) (append-nil rows.resolutions)
    ∙ ap (λ l. record rows { choices = l; sponsors = rows.sponsors ++ []; ballots = rows.ballots ++ [] }) (append-nil rows.choices)
    ∙ ap (λ l. record rows { sponsors = l; ballots = rows.ballots ++ [] }) (append-nil rows.sponsors)
    ∙ ap (λ l. record rows { ballots = l }) (append-nil rows.ballots)

-- no desk has rows that are damaged
pub damaged_has : (rows : Stored) → AreDamaged rows → (s : State) → Fits s → HasRows s rows → ⊥
damaged_has rows damaged s fits has = damaged s nothing_taken fits (subst (HasRows s) (sym (joined_nothing rows)) has)

-- damaged rows stay so, whatever comes after them
pub still_damaged : (table : TableName) (rows : Stored) (more : List (List Field)) → AreDamaged rows → AreDamaged (with_more table rows more)
still_damaged DeskTable rows more damaged s behind fits has =
    damaged s (record behind { desk = more ++ behind.desk }) fits
    (subst (HasRows s) (ap (λ l. record (joined rows behind) { desk = l }) (append_assoc rows.desk more behind.desk)) has)
still_damaged DeveloperTable rows more damaged s behind fits has =
    damaged s (record behind { developers = more ++ behind.developers }) fits
    (subst (HasRows s) (ap (λ l. record (joined rows behind) { developers = l }) (append_assoc rows.developers more behind.developers)) has)
still_damaged ResolutionTable rows more damaged s behind fits has =
    damaged s (record behind { resolutions = more ++ behind.resolutions }) fits
    (subst (HasRows s) (ap (λ l. record (joined rows behind) { resolutions = l }) (append_assoc rows.resolutions more behind.resolutions)) has)
still_damaged ChoiceTable rows more damaged s behind fits has =
    damaged s (record behind { choices = more ++ behind.choices }) fits
    (subst (HasRows s) (ap (λ l. record (joined rows behind) { choices = l }) (append_assoc rows.choices more behind.choices)) has)
still_damaged SponsorTable rows more damaged s behind fits has =
    damaged s (record behind { sponsors = more ++ behind.sponsors }) fits
    (subst (HasRows s) (ap (λ l. record (joined rows behind) { sponsors = l }) (append_assoc rows.sponsors more behind.sponsors)) has)
still_damaged BallotTable rows more damaged s behind fits has =
    damaged s (record behind { ballots = more ++ behind.ballots }) fits
    (subst (HasRows s) (ap (λ l. record (joined rows behind) { ballots = l }) (append_assoc rows.ballots more behind.ballots)) has)

-- ==== one row more

module _ {A E : Type 0} (r : Result A E) where
  when_ok : {P Q : Type 0} → (P → Q) → OnOk r P → OnOk r Q
  when_ok {P} {Q} = on r
    where
      on : (answer : Result A E) → (P → Q) → OnOk answer P → OnOk answer Q
      on (Ok x) f p = f p
      on (Err e) f p = tt

  held : {Q : Type 0} → Q → OnOk r Q
  held {Q} = on r
    where
      on : (answer : Result A E) → Q → OnOk answer Q
      on (Ok x) q = q
      on (Err e) q = tt

  come : (condition : Condition) (rows more : Stored) (old new : Intake) → (AreKept rows old → OnOk r (AreKept more new))
      → (AreDamaged rows → AreDamaged more) → HasBecome condition rows old → OnOk r (HasBecome condition more new)
  come Kept rows more old new kept damaged h = kept h
  come Damaged rows more old new kept damaged h = held (damaged h)
  come Spent rows more old new kept damaged h = absurd h

  -- the rows of a table other than `desk` are those with one more
  taken_on : (table : TableName) (rows : Stored) (fields : List Field) (old new : Intake) → new.condition ≡ old.condition
      → AreHeaderRows new.desk (with_more table rows (fields ∷ [])).desk
      → (AreKept rows old → OnOk r (AreKept (with_more table rows (fields ∷ [])) new)) → HasTaken rows old
      → OnOk r (HasTaken (with_more table rows (fields ∷ [])) new)
  taken_on table rows fields old new same desk kept taken =
      let more = with_more table rows (fields ∷ []) in
      when_ok (λ others. record { desk = desk; others = subst (λ c. HasBecome c more new) (sym same) others })
      (come old.condition rows more old new kept (still_damaged table rows (fields ∷ [])) taken.others)

  pub developer_taken : (rows : Stored) (fields : List Field) (old : Intake) (roll : FinMap text_cmp DeveloperModel)
      → (IsRollOf rows.developers old.roll → OnOk r (IsRollOf (rows.developers ++ fields ∷ []) roll)) → HasTaken rows old
      → OnOk r (HasTaken (with_more DeveloperTable rows (fields ∷ [])) (record old { roll = roll }))
  developer_taken rows fields old roll added taken =
      taken_on DeveloperTable rows fields old (record old { roll = roll }) refl taken.desk
      (λ kept. when_ok (λ developers. record {
        developers = developers;
        resolutions = kept.resolutions;
        choices = kept.choices;
        sponsors = kept.sponsors;
        ballots = kept.ballots;
      }) (added kept.developers)) taken

  pub resolution_taken : (rows : Stored) (fields : List Field) (old : Intake) (resolutions : FinMap nat_cmp Resolution)
      → (AreResolutionsOf rows.resolutions old.resolutions → OnOk r (AreResolutionsOf (rows.resolutions ++ fields ∷ []) resolutions)) → HasTaken rows old
      → OnOk r (HasTaken (with_more ResolutionTable rows (fields ∷ [])) (record old { resolutions = resolutions }))
  resolution_taken rows fields old resolutions added taken =
      taken_on ResolutionTable rows fields old (record old { resolutions = resolutions }) refl taken.desk
      (λ kept. when_ok (λ more. record {
        developers = kept.developers;
        resolutions = more;
        choices = kept.choices;
        sponsors = kept.sponsors;
        ballots = kept.ballots;
      }) (added kept.resolutions)) taken

  pub choice_taken : (rows : Stored) (fields : List Field) (old : Intake) (choices : FinMap choice_cmp ChoiceModel)
      → (AreChoicesOf rows.choices old.choices → OnOk r (AreChoicesOf (rows.choices ++ fields ∷ []) choices)) → HasTaken rows old
      → OnOk r (HasTaken (with_more ChoiceTable rows (fields ∷ [])) (record old { choices = choices }))
  choice_taken rows fields old choices added taken =
      taken_on ChoiceTable rows fields old (record old { choices = choices }) refl taken.desk
      (λ kept. when_ok (λ more. record {
        developers = kept.developers;
        resolutions = kept.resolutions;
        choices = more;
        sponsors = kept.sponsors;
        ballots = kept.ballots;
      }) (added kept.choices)) taken

  pub sponsor_taken : (rows : Stored) (fields : List Field) (old : Intake) (sponsors : FinMap sponsor_cmp Sponsorship)
      → (AreSponsorsOf rows.sponsors old.sponsors → OnOk r (AreSponsorsOf (rows.sponsors ++ fields ∷ []) sponsors)) → HasTaken rows old
      → OnOk r (HasTaken (with_more SponsorTable rows (fields ∷ [])) (record old { sponsors = sponsors }))
  sponsor_taken rows fields old sponsors added taken =
      taken_on SponsorTable rows fields old (record old { sponsors = sponsors }) refl taken.desk
      (λ kept. when_ok (λ more. record {
        developers = kept.developers;
        resolutions = kept.resolutions;
        choices = kept.choices;
        sponsors = more;
        ballots = kept.ballots;
      }) (added kept.sponsors)) taken

  pub ballot_taken : (rows : Stored) (fields : List Field) (old : Intake) (ballots : FinMap ballot_cmp BallotModel)
      → (AreBallotsOf rows.ballots old.ballots → OnOk r (AreBallotsOf (rows.ballots ++ fields ∷ []) ballots)) → HasTaken rows old
      → OnOk r (HasTaken (with_more BallotTable rows (fields ∷ [])) (record old { ballots = ballots }))
  ballot_taken rows fields old ballots added taken =
      taken_on BallotTable rows fields old (record old { ballots = ballots }) refl taken.desk
      (λ kept. when_ok (λ more. record {
        developers = kept.developers;
        resolutions = kept.resolutions;
        choices = kept.choices;
        sponsors = kept.sponsors;
        ballots = more;
      }) (added kept.ballots)) taken

pub desk_taken : (rows : Stored) (fields : List Field) (old : Intake) (desk : HeaderRows) → AreHeaderRows desk (rows.desk ++ fields ∷ [])
    → HasTaken rows old → HasTaken (with_more DeskTable rows (fields ∷ [])) (record old { desk = desk })
desk_taken rows fields old desk are taken =
    let done : Result (Unit {0}) (Unit {0}) = Ok tt in
    taken_on done DeskTable rows fields old (record old { desk = desk }) refl are
    (λ kept. record {
      developers = kept.developers;
      resolutions = kept.resolutions;
      choices = kept.choices;
      sponsors = kept.sponsors;
      ballots = kept.ballots;
    }) taken

-- ==== a row that no desk can have after those before it

damaged_come : (condition : Condition) (table : TableName) (rows : Stored) (fields : List Field) (old : Intake)
    → (AreKept rows old → AreDamaged (with_more table rows (fields ∷ []))) → HasBecome condition rows old
    → AreDamaged (with_more table rows (fields ∷ []))
damaged_come Kept table rows fields old damaged h = damaged h
damaged_come Damaged table rows fields old damaged h = still_damaged table rows (fields ∷ []) h
damaged_come Spent table rows fields old damaged h = absurd h

pub developer_damaged : (rows : Stored) (fields : List Field) (old : Intake) → HasTaken rows old
    → ((behind : List (List Field)) → IsRollOf rows.developers old.roll → HaveNoRoll (rows.developers ++ fields ∷ behind))
    → AreHeaderRows old.desk rows.desk × AreDamaged (with_more DeveloperTable rows (fields ∷ []))
developer_damaged rows fields old taken none = (
  taken.desk,
  damaged_come old.condition DeveloperTable rows fields old (λ kept s behind fits has.
      none behind.developers kept.developers s.developers (record {
        rows = subst (AreRowsOf developer_fields s.developers) (append_assoc rows.developers (fields ∷ []) behind.developers) has.developers;
        fits = λ key value there. tt;
      })) taken.others,
)

pub resolution_damaged : (rows : Stored) (fields : List Field) (old : Intake) → HasTaken rows old
    → ((behind : List (List Field)) → AreResolutionsOf rows.resolutions old.resolutions → HaveNoResolutions (rows.resolutions ++ fields ∷ behind))
    → AreHeaderRows old.desk rows.desk × AreDamaged (with_more ResolutionTable rows (fields ∷ []))
resolution_damaged rows fields old taken none = (
  taken.desk,
  damaged_come old.condition ResolutionTable rows fields old (λ kept s behind fits has.
      none behind.resolutions kept.resolutions s.resolutions (record {
        rows = subst (AreRowsOf resolution_fields s.resolutions) (append_assoc rows.resolutions (fields ∷ []) behind.resolutions) has.resolutions;
        fits = fits.resolutions;
      })) taken.others,
)

pub choice_damaged : (rows : Stored) (fields : List Field) (old : Intake) → HasTaken rows old
    → ((behind : List (List Field)) → AreChoicesOf rows.choices old.choices → HaveNoChoices (rows.choices ++ fields ∷ behind))
    → AreHeaderRows old.desk rows.desk × AreDamaged (with_more ChoiceTable rows (fields ∷ []))
choice_damaged rows fields old taken none = (
  taken.desk,
  damaged_come old.condition ChoiceTable rows fields old (λ kept s behind fits has.
      none behind.choices kept.choices s.choices (record {
        rows = subst (AreRowsOf choice_fields s.choices) (append_assoc rows.choices (fields ∷ []) behind.choices) has.choices;
        fits = fits.choices;
      })) taken.others,
)

pub sponsor_damaged : (rows : Stored) (fields : List Field) (old : Intake) → HasTaken rows old
    → ((behind : List (List Field)) → AreSponsorsOf rows.sponsors old.sponsors → HaveNoSponsors (rows.sponsors ++ fields ∷ behind))
    → AreHeaderRows old.desk rows.desk × AreDamaged (with_more SponsorTable rows (fields ∷ []))
sponsor_damaged rows fields old taken none = (
  taken.desk,
  damaged_come old.condition SponsorTable rows fields old (λ kept s behind fits has.
      none behind.sponsors kept.sponsors s.sponsors (record {
        rows = subst (AreRowsOf sponsor_fields s.sponsors) (append_assoc rows.sponsors (fields ∷ []) behind.sponsors) has.sponsors;
        fits = fits.sponsors;
      })) taken.others,
)

pub ballot_damaged : (rows : Stored) (fields : List Field) (old : Intake) → HasTaken rows old
    → ((behind : List (List Field)) → AreBallotsOf rows.ballots old.ballots → HaveNoBallots (rows.ballots ++ fields ∷ behind))
    → AreHeaderRows old.desk rows.desk × AreDamaged (with_more BallotTable rows (fields ∷ []))
ballot_damaged rows fields old taken none = (
  taken.desk,
  damaged_come old.condition BallotTable rows fields old (λ kept s behind fits has.
      none behind.ballots kept.ballots s.ballots (record {
        rows = subst (AreRowsOf ballot_fields s.ballots) (append_assoc rows.ballots (fields ∷ []) behind.ballots) has.ballots;
        fits = fits.ballots;
      })) taken.others,
)

-- ==== the tables of an intake

-- what an intake whose condition is known knows
pub come_to : (intake : Intake) (condition : Condition) (rows : Stored) → intake.condition ≡ condition → HasTaken rows intake
    → HasBecome condition rows intake
come_to intake condition rows is taken = subst (λ c. HasBecome c rows intake) is taken.others

-- a failure that is handed on
pub failed_with : {A B E : Type 0} (r : Result A E) (e f : E) → IsErrAnd r (λ other. other ≡ e) → r ≡ Err f
    → ◌≡◌ {A = Result B E} (Err e) (Err f)
failed_with (Ok x) e f is same = absurd is
failed_with (Err other) e f is same = let one : other ≡ f = cc in ap Err (sym is ∙ one)

-- the rows are those of the tables with the header that they say, and columns can keep these
pub kept_state : (intake : Intake) (rows : Stored) (header : Header) → IsHeaderOf rows intake header
    → Fits (taken_with header intake) × HasRows (taken_with header intake) rows
kept_state intake rows header of = (
  record {
    header = of.fits;
    resolutions = of.kept.resolutions.fits;
    choices = of.kept.choices.fits;
    sponsors = of.kept.sponsors.fits;
    ballots = of.kept.ballots.fits;
  },
  record {
    desk = of.desk;
    developers = of.kept.developers.rows;
    resolutions = of.kept.resolutions.rows;
    choices = of.kept.choices.rows;
    sponsors = of.kept.sponsors.rows;
    ballots = of.kept.ballots.rows;
  },
)

-- the desk of the tables and the header has the rows
pub finished_has : (intake : Intake) (rows : Stored) (header : Header) → IsHeaderOf rows intake header
    → {E : Type 0} (made : Result State E) → IfOk made (λ desk. desk ≡ taken_with header intake)
    → IfOk made (λ desk. HasRows desk rows)
finished_has intake rows header of (Ok desk) is =
    subst (λ s. HasRows s rows) (sym is) (kept_state intake rows header of).1
finished_has intake rows header of (Err e) is = tt
