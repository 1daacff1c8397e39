-- The rows that an act leaves: under keys that it does not put every table has what it had, and no key vanishes.
use Rattle.std.proofs.Common.{◌≡◌, ℕ, Bool, true, false, cond, List, [], ◌∷◌, map, Some, None, is_some, refl, sym, ap, ◌∙◌}
use Rattle.std.specs.Prelude.{◌||◌}
use Rattle.std.specs.declared.cmp.Ordering.{Ordering}
use Rattle.std.specs.Ordering.{nat_cmp, eq_by_cmp}
use Rattle.std.specs.Cmp.{IsTotalOrder, eq_by_cmp_equiv, nat_cmp_total}
use Rattle.std.specs.FinMap.{FinMap, IsAntisymmetric, get, insert, get-insert, nat_cmp-IsAntisymmetric}
use Rattle.gr_core.specs.declared.bookkeeping.Gain.{Gain}
use Rattle.gr_core.specs.declared.bookkeeping.Gain.TheVariants.{Nothing, Introduction, Remedy}
use Rattle.gr_core.specs.declared.choice.ChoiceKey.{ChoiceKey}
use Rattle.gr_core.specs.declared.sponsor.Sponsorship.{Sponsorship}
use Rattle.gr_core.specs.declared.sponsor.Sponsorship.TheVariants.{Active, Withdrawn}
use Rattle.gr_core.specs.declared.resolution.Resolution.TheVariants.{Draft}
use Rattle.gr_core.specs.Parts.Key.{SponsorKey, BallotKey, choice_cmp, sponsor_cmp, ballot_cmp}
use Rattle.gr_core.specs.Parts.Resolution.{changed, entered, shifted, closed, decided}
use Rattle.gr_core.specs.Parts.Choice.{Developer, Leader, Committee}
use Rattle.gr_core.specs.Parts.Sponsor.{is_active_sponsor}
use Rattle.gr_core.specs.Parts.Ballot.{new_ballot}
use Rattle.gr_core.specs.Machine.Map.{changed_at, with_rows}
use Rattle.gr_core.specs.Desks.State.{State}
use Rattle.gr_core.specs.Machine.Bookkeeping.{gained, with_gain, gain_at, becomes_short, shortened}
use Rattle.gr_core.specs.Machine.Act.{Act, Propose, AddChoice, Sponsor, Unsponsor, Withdraw, Adopt, Amend, Vary, Call, Vote, Close, Cast}
use Rattle.gr_core.specs.Machine.Effect.{own, gaining, losing, effect, only_if, is_introduction, is_gain, next_resolution, first_choice_key, next_choice_key, new_choice, changes_ballot, called, live_choices, poll_at, placed, resolutions_put, choices_put, sponsors_put, ballots_put}
use Rattle.gr_core.proofs.Collections.PairKeys.{choice_total, choice_only}
use Rattle.gr_core.proofs.Contents.SponsorLemmas.{sponsor_total, sponsor_only}
use Rattle.gr_core.proofs.Contents.BallotKeys.{ballot_total, ballot_only}
use Rattle.gr_core.proofs.Collections.RowPutLemmas.{get-put_other}
use Rattle.gr_core.proofs.Collections.RowChangedLemmas.{get-changed_at_other, is_some-changed_at}
use Rattle.gr_core.proofs.Effects.LeftTableLemmas.{sponsors-booked, ballots-effect}
use Rattle.gr_core.proofs.Collections.RowsPutLemmas.{is_among}
use Rattle.gr_core.proofs.Contents.PlaceLemmas.{keys-placed}

-- ==== maps of any kind

-- a key that is not among others is none of them
pub first_differs : {J : Type 0} {cmp : J → J → Ordering} → IsTotalOrder cmp → IsAntisymmetric cmp
    → (q key : J) (keys : List J) → is_among cmp q (key ∷ keys) ≡ false → q ≡ key → ⊥
first_differs {cmp = cmp} total only q key keys not_among same =
    let tie : eq_by_cmp cmp q key ≡ true = ap (eq_by_cmp cmp q) (sym same) ∙ (eq_by_cmp_equiv total).refl q in
    let never : true ≡ false = ap (λ b. b || is_among cmp q keys) (sym tie) ∙ not_among in
    cc

module _ {J R : Type 0} {cmp : J → J → Ordering} (total : IsTotalOrder cmp) (only : IsAntisymmetric cmp) where
  -- a change that is made only if
  pub get-changed_if : (is : Bool) (m : FinMap cmp R) (key q : J) (change : R → R) → is_among cmp q (only_if is key) ≡ false
      → get (cond is (changed_at m key change) m) q ≡ get m q
  get-changed_if true m key q change not_among = get-changed_at_other total only m key q change (first_differs total only q key [] not_among)
  get-changed_if false m key q change not_among = refl

  pub stays-changed_at : (m : FinMap cmp R) (key q : J) (change : R → R) → is_some (get m q) ≡ true → is_some (get (changed_at m key change) q) ≡ true
  stays-changed_at m key q change there = is_some-changed_at total only m key q change ∙ there

  pub stays-insert : (m : FinMap cmp R) (key q : J) (row : R) → is_some (get m q) ≡ true → is_some (get (insert m key row) q) ≡ true
  stays-insert m key q row there = ap is_some (get-insert total m key row q) ∙ either (eq_by_cmp cmp q key)
    where
      either : (b : Bool) → is_some (cond b (Some row) (get m q)) ≡ true
      either true = refl
      either false = there

  -- rows put one after the other
  pub get-with_rows_other : (m : FinMap cmp R) (rows : List (J × R)) (q : J)
      → is_among cmp q (map (λ row. row.0) rows) ≡ false → get (with_rows m rows) q ≡ get m q
  get-with_rows_other m [] q not_among = refl
  get-with_rows_other m (row ∷ rows) q not_among =
      get-with_rows_other (insert m row.0 row.1) rows q (rest (eq_by_cmp cmp q row.0) (is_among cmp q (map (λ r. r.0) rows)) not_among)
      ∙ get-put_other total only m row.0 q row.1 (first_differs total only q row.0 (map (λ r. r.0) rows) not_among)
    where
      rest : (here later : Bool) → (here || later) ≡ false → later ≡ false
      rest true later is = absurd (let never : true ≡ false = is in cc)
      rest false later is = is

  pub stays-with_rows : (m : FinMap cmp R) (rows : List (J × R)) (q : J) → is_some (get m q) ≡ true → is_some (get (with_rows m rows) q) ≡ true
  stays-with_rows m [] q there = there
  stays-with_rows m (row ∷ rows) q there = stays-with_rows (insert m row.0 row.1) rows q (stays-insert m row.0 q row.1 there)

-- ==== resolutions

gain-resolutions_other : (gain : Gain) (s : State) (at : ℕ) (key : ChoiceKey) (q : ℕ) → (q ≡ key.resolution → ⊥)
    → get (with_gain gain s at key).resolutions q ≡ get s.resolutions q
gain-resolutions_other Nothing s at key q other = refl
gain-resolutions_other Introduction s at key q other =
    get-changed_at_other nat_cmp_total nat_cmp-IsAntisymmetric s.resolutions key.resolution q (entered at) other
gain-resolutions_other Remedy s at key q other = refl

gain-resolutions : (gain : Gain) (s : State) (at : ℕ) (key : ChoiceKey) (q : ℕ) → is_among nat_cmp q (only_if (is_introduction gain) key.resolution) ≡ false
    → get (with_gain gain s at key).resolutions q ≡ get s.resolutions q
gain-resolutions Nothing s at key q not_among = refl
gain-resolutions Introduction s at key q not_among =
    gain-resolutions_other Introduction s at key q
    (first_differs nat_cmp_total nat_cmp-IsAntisymmetric q key.resolution [] not_among)
gain-resolutions Remedy s at key q not_among = refl

-- a loss leaves the resolutions
pub loss-resolutions : (is : Bool) (s : State) (at : ℕ) (key : ChoiceKey)
    → (cond is (record s { choices = changed_at s.choices key (shortened at) }) s).resolutions ≡ s.resolutions
loss-resolutions true s at key = refl
loss-resolutions false s at key = refl

-- an act leaves the resolutions that it does not put
pub resolutions_left : (s : State) (at : ℕ) (act : Act) (q : ℕ) → is_among nat_cmp q (resolutions_put s at act) ≡ false
    → get (effect s at act).resolutions q ≡ get s.resolutions q
resolutions_left s at (Propose proposer wording ratio) q not_among =
    let act = Propose proposer wording ratio in
    let other = first_differs nat_cmp_total nat_cmp-IsAntisymmetric q (next_resolution s) [] not_among in
    gain-resolutions_other (gain_at (own s at act) (first_choice_key s)) (own s at act) at (first_choice_key s) q other
    ∙ get-put_other nat_cmp_total nat_cmp-IsAntisymmetric s.resolutions (next_resolution s) q Draft other
resolutions_left s at (AddChoice resolution proposer wording ratio) q not_among =
    let after = own s at (AddChoice resolution proposer wording ratio) in
    gain-resolutions (gain_at after (next_choice_key s resolution)) after at (next_choice_key s resolution) q not_among
resolutions_left s at (Sponsor choice login) q not_among =
    let after = own s at (Sponsor choice login) in
    gain-resolutions (gain_at after choice) after at choice q not_among
resolutions_left s at (Adopt choice proposer) q not_among =
    let after = own s at (Adopt choice proposer) in
    gain-resolutions (gain_at after choice) after at choice q not_among
resolutions_left s at (Unsponsor choice login) q not_among =
    let after = own s at (Unsponsor choice login) in
    ap (λ resolutions. get resolutions q) (loss-resolutions (becomes_short after choice) after at choice)
resolutions_left s at (Withdraw choice) q not_among =
    let after = own s at (Withdraw choice) in
    ap (λ resolutions. get resolutions q) (loss-resolutions (becomes_short after choice) after at choice)
resolutions_left s at (Amend choice amendment wording) q not_among =
    get-changed_if nat_cmp_total nat_cmp-IsAntisymmetric (changes_ballot amendment (get s.resolutions choice.resolution) (get s.choices choice))
    s.resolutions choice.resolution q (changed at) not_among
resolutions_left s at (Vary resolution days) q not_among =
    get-changed_at_other nat_cmp_total nat_cmp-IsAntisymmetric s.resolutions resolution q (shifted days)
    (first_differs nat_cmp_total nat_cmp-IsAntisymmetric q resolution [] not_among)
resolutions_left s at (Call resolution days) q not_among =
    get-changed_at_other nat_cmp_total nat_cmp-IsAntisymmetric s.resolutions resolution q
    (called (live_choices s.choices at resolution) (poll_at s at days))
    (first_differs nat_cmp_total nat_cmp-IsAntisymmetric q resolution [] not_among)
resolutions_left s at (Close resolution) q not_among =
    get-changed_at_other nat_cmp_total nat_cmp-IsAntisymmetric s.resolutions resolution q closed
    (first_differs nat_cmp_total nat_cmp-IsAntisymmetric q resolution [] not_among)
resolutions_left s at (Cast resolution place) q not_among =
    get-changed_at_other nat_cmp_total nat_cmp-IsAntisymmetric s.resolutions resolution q (decided place)
    (first_differs nat_cmp_total nat_cmp-IsAntisymmetric q resolution [] not_among)
resolutions_left s at other q not_among = refl

gain-resolutions_stay : (gain : Gain) (s : State) (at : ℕ) (key : ChoiceKey) (q : ℕ) → is_some (get s.resolutions q) ≡ true
    → is_some (get (with_gain gain s at key).resolutions q) ≡ true
gain-resolutions_stay Nothing s at key q there = there
gain-resolutions_stay Introduction s at key q there = stays-changed_at nat_cmp_total nat_cmp-IsAntisymmetric s.resolutions key.resolution q (entered at) there
gain-resolutions_stay Remedy s at key q there = there

-- no resolution vanishes
pub resolutions_stay : (s : State) (at : ℕ) (act : Act) (q : ℕ) → is_some (get s.resolutions q) ≡ true
    → is_some (get (effect s at act).resolutions q) ≡ true
resolutions_stay s at (Propose proposer wording ratio) q there =
    let after = own s at (Propose proposer wording ratio) in
    gain-resolutions_stay (gain_at after (first_choice_key s)) after at (first_choice_key s) q
    (stays-insert nat_cmp_total nat_cmp-IsAntisymmetric s.resolutions (next_resolution s) q Draft there)
resolutions_stay s at (AddChoice resolution proposer wording ratio) q there =
    let after = own s at (AddChoice resolution proposer wording ratio) in
    gain-resolutions_stay (gain_at after (next_choice_key s resolution)) after at (next_choice_key s resolution) q there
resolutions_stay s at (Sponsor choice login) q there =
    let after = own s at (Sponsor choice login) in
    gain-resolutions_stay (gain_at after choice) after at choice q there
resolutions_stay s at (Adopt choice proposer) q there =
    let after = own s at (Adopt choice proposer) in
    gain-resolutions_stay (gain_at after choice) after at choice q there
resolutions_stay s at (Unsponsor choice login) q there =
    let after = own s at (Unsponsor choice login) in
    ap (λ resolutions. is_some (get resolutions q)) (loss-resolutions (becomes_short after choice) after at choice) ∙ there
resolutions_stay s at (Withdraw choice) q there =
    let after = own s at (Withdraw choice) in
    ap (λ resolutions. is_some (get resolutions q)) (loss-resolutions (becomes_short after choice) after at choice) ∙ there
resolutions_stay s at (Amend choice amendment wording) q there =
    either (changes_ballot amendment (get s.resolutions choice.resolution) (get s.choices choice))
  where
    either : (b : Bool) → is_some (get (cond b (changed_at s.resolutions choice.resolution (changed at)) s.resolutions) q) ≡ true
    either true = stays-changed_at nat_cmp_total nat_cmp-IsAntisymmetric s.resolutions choice.resolution q (changed at) there
    either false = there
resolutions_stay s at (Vary resolution days) q there = stays-changed_at nat_cmp_total nat_cmp-IsAntisymmetric s.resolutions resolution q (shifted days) there
resolutions_stay s at (Call resolution days) q there =
    stays-changed_at nat_cmp_total nat_cmp-IsAntisymmetric s.resolutions resolution q
    (called (live_choices s.choices at resolution) (poll_at s at days)) there
resolutions_stay s at (Close resolution) q there =
    stays-changed_at nat_cmp_total nat_cmp-IsAntisymmetric s.resolutions resolution q closed there
resolutions_stay s at (Cast resolution place) q there =
    stays-changed_at nat_cmp_total nat_cmp-IsAntisymmetric s.resolutions resolution q (decided place) there
resolutions_stay s at other q there = there

-- ==== choices

gain-choices_other : (gain : Gain) (s : State) (at : ℕ) (key q : ChoiceKey) → (q ≡ key → ⊥) → get (with_gain gain s at key).choices q ≡ get s.choices q
gain-choices_other Nothing s at key q other = refl
gain-choices_other Introduction s at key q other = get-changed_at_other choice_total choice_only s.choices key q (gained Introduction at) other
gain-choices_other Remedy s at key q other = get-changed_at_other choice_total choice_only s.choices key q (gained Remedy at) other

gain-choices : (gain : Gain) (s : State) (at : ℕ) (key q : ChoiceKey) → is_among choice_cmp q (only_if (is_gain gain) key) ≡ false
    → get (with_gain gain s at key).choices q ≡ get s.choices q
gain-choices Nothing s at key q not_among = refl
gain-choices Introduction s at key q not_among = gain-choices_other Introduction s at key q (first_differs choice_total choice_only q key [] not_among)
gain-choices Remedy s at key q not_among = gain-choices_other Remedy s at key q (first_differs choice_total choice_only q key [] not_among)

loss-choices_other : (is : Bool) (s : State) (at : ℕ) (key q : ChoiceKey) → (q ≡ key → ⊥)
    → get (cond is (record s { choices = changed_at s.choices key (shortened at) }) s).choices q ≡ get s.choices q
loss-choices_other true s at key q other = get-changed_at_other choice_total choice_only s.choices key q (shortened at) other
loss-choices_other false s at key q other = refl

loss-choices : (is : Bool) (s : State) (at : ℕ) (key q : ChoiceKey) → is_among choice_cmp q (only_if is key) ≡ false
    → get (cond is (record s { choices = changed_at s.choices key (shortened at) }) s).choices q ≡ get s.choices q
loss-choices true s at key q not_among = loss-choices_other true s at key q (first_differs choice_total choice_only q key [] not_among)
loss-choices false s at key q not_among = refl

-- an act leaves the choices that it does not put
pub choices_left : (s : State) (at : ℕ) (act : Act) (q : ChoiceKey) → is_among choice_cmp q (choices_put s at act) ≡ false
    → get (effect s at act).choices q ≡ get s.choices q
choices_left s at (Propose proposer wording ratio) q not_among =
    let after = own s at (Propose proposer wording ratio) in
    let other = first_differs choice_total choice_only q (first_choice_key s) [] not_among in
    gain-choices_other (gain_at after (first_choice_key s)) after at (first_choice_key s) q other
    ∙ get-put_other choice_total choice_only s.choices (first_choice_key s) q (new_choice proposer wording ratio) other
choices_left s at (AddChoice resolution proposer wording ratio) q not_among =
    let after = own s at (AddChoice resolution proposer wording ratio) in
    let key = next_choice_key s resolution in
    let other = first_differs choice_total choice_only q key [] not_among in
    gain-choices_other (gain_at after key) after at key q other
    ∙ get-put_other choice_total choice_only s.choices key q (new_choice proposer wording ratio) other
choices_left s at (Sponsor choice login) q not_among =
    let after = own s at (Sponsor choice login) in
    gain-choices (gain_at after choice) after at choice q not_among
choices_left s at (Adopt choice proposer) q not_among =
    let after = own s at (Adopt choice proposer) in
    let other = first_differs choice_total choice_only q choice [] not_among in
    gain-choices_other (gain_at after choice) after at choice q other
    ∙ get-changed_at_other choice_total choice_only s.choices choice q (λ row. record row { proposer = Some proposer }) other
choices_left s at (Unsponsor choice login) q not_among =
    let after = own s at (Unsponsor choice login) in
    loss-choices (becomes_short after choice) after at choice q not_among
choices_left s at (Withdraw choice) q not_among =
    let after = own s at (Withdraw choice) in
    let other = first_differs choice_total choice_only q choice [] not_among in
    loss-choices_other (becomes_short after choice) after at choice q other
    ∙ get-changed_at_other choice_total choice_only s.choices choice q (λ row. record row { proposer = None }) other
choices_left s at (Amend choice amendment wording) q not_among =
    get-changed_at_other choice_total choice_only s.choices choice q (λ row. record row { wording = wording })
    (first_differs choice_total choice_only q choice [] not_among)
choices_left s at (Call resolution days) q not_among =
    let live = live_choices s.choices at resolution in
    get-with_rows_other choice_total choice_only s.choices (placed 1 live) q
    (ap (is_among choice_cmp q) (keys-placed 1 live) ∙ not_among)
choices_left s at other q not_among = refl

gain-choices_stay : (gain : Gain) (s : State) (at : ℕ) (key q : ChoiceKey) → is_some (get s.choices q) ≡ true
    → is_some (get (with_gain gain s at key).choices q) ≡ true
gain-choices_stay Nothing s at key q there = there
gain-choices_stay Introduction s at key q there = stays-changed_at choice_total choice_only s.choices key q (gained Introduction at) there
gain-choices_stay Remedy s at key q there = stays-changed_at choice_total choice_only s.choices key q (gained Remedy at) there

loss-choices_stay : (is : Bool) (s : State) (at : ℕ) (key q : ChoiceKey) → is_some (get s.choices q) ≡ true
    → is_some (get (cond is (record s { choices = changed_at s.choices key (shortened at) }) s).choices q) ≡ true
loss-choices_stay true s at key q there = stays-changed_at choice_total choice_only s.choices key q (shortened at) there
loss-choices_stay false s at key q there = there

-- no choice vanishes
pub choices_stay : (s : State) (at : ℕ) (act : Act) (q : ChoiceKey) → is_some (get s.choices q) ≡ true
    → is_some (get (effect s at act).choices q) ≡ true
choices_stay s at (Propose proposer wording ratio) q there =
    let after = own s at (Propose proposer wording ratio) in
    gain-choices_stay (gain_at after (first_choice_key s)) after at (first_choice_key s) q
    (stays-insert choice_total choice_only s.choices (first_choice_key s) q (new_choice proposer wording ratio) there)
choices_stay s at (AddChoice resolution proposer wording ratio) q there =
    let after = own s at (AddChoice resolution proposer wording ratio) in
    gain-choices_stay (gain_at after (next_choice_key s resolution)) after at (next_choice_key s resolution) q
    (stays-insert choice_total choice_only s.choices (next_choice_key s resolution) q (new_choice proposer wording ratio) there)
choices_stay s at (Sponsor choice login) q there =
    let after = own s at (Sponsor choice login) in
    gain-choices_stay (gain_at after choice) after at choice q there
choices_stay s at (Adopt choice proposer) q there =
    let after = own s at (Adopt choice proposer) in
    gain-choices_stay (gain_at after choice) after at choice q
    (stays-changed_at choice_total choice_only s.choices choice q (λ row. record row { proposer = Some proposer }) there)
choices_stay s at (Unsponsor choice login) q there =
    let after = own s at (Unsponsor choice login) in
    loss-choices_stay (becomes_short after choice) after at choice q there
choices_stay s at (Withdraw choice) q there =
    let after = own s at (Withdraw choice) in
    loss-choices_stay (becomes_short after choice) after at choice q
    (stays-changed_at choice_total choice_only s.choices choice q (λ row. record row { proposer = None }) there)
choices_stay s at (Amend choice amendment wording) q there =
    stays-changed_at choice_total choice_only s.choices choice q (λ row. record row { wording = wording }) there
choices_stay s at (Call resolution days) q there =
    stays-with_rows choice_total choice_only s.choices (placed 1 (live_choices s.choices at resolution)) q there
choices_stay s at other q there = there

-- ==== sponsors

-- a row that is put only if
get-insert_if : (is : Bool) (m : FinMap sponsor_cmp Sponsorship) (key q : SponsorKey) (row : Sponsorship) → is_among sponsor_cmp q (only_if is key) ≡ false
    → get (cond is (insert m key row) m) q ≡ get m q
get-insert_if true m key q row not_among = get-put_other sponsor_total sponsor_only m key q row (first_differs sponsor_total sponsor_only q key [] not_among)
get-insert_if false m key q row not_among = refl

own-sponsors_left : (s : State) (at : ℕ) (act : Act) (q : SponsorKey) → is_among sponsor_cmp q (sponsors_put s act) ≡ false
    → get (own s at act).sponsors q ≡ get s.sponsors q
own-sponsors_left s at (Sponsor choice login) q not_among =
    get-put_other sponsor_total sponsor_only s.sponsors (choice, login) q Active (first_differs sponsor_total sponsor_only q (choice, login) [] not_among)
own-sponsors_left s at (Unsponsor choice login) q not_among =
    get-put_other sponsor_total sponsor_only s.sponsors (choice, login) q Withdrawn (first_differs sponsor_total sponsor_only q (choice, login) [] not_among)
own-sponsors_left s at (Adopt choice (Developer login)) q not_among =
    get-insert_if (is_active_sponsor s.sponsors (choice, login)) s.sponsors (choice, login) q Withdrawn not_among
own-sponsors_left s at (Adopt choice Leader) q not_among = refl
own-sponsors_left s at (Adopt choice Committee) q not_among = refl
own-sponsors_left s at other q not_among = refl

-- an act leaves the sponsors that it does not put
pub sponsors_left : (s : State) (at : ℕ) (act : Act) (q : SponsorKey) → is_among sponsor_cmp q (sponsors_put s act) ≡ false
    → get (effect s at act).sponsors q ≡ get s.sponsors q
sponsors_left s at act q not_among =
    ap (λ sponsors. get sponsors q) (sponsors-booked (gaining s act) (losing act) at (own s at act)) ∙ own-sponsors_left s at act q not_among

own-sponsors_stay : (s : State) (at : ℕ) (act : Act) (q : SponsorKey) → is_some (get s.sponsors q) ≡ true → is_some (get (own s at act).sponsors q) ≡ true
own-sponsors_stay s at (Sponsor choice login) q there = stays-insert sponsor_total sponsor_only s.sponsors (choice, login) q Active there
own-sponsors_stay s at (Unsponsor choice login) q there = stays-insert sponsor_total sponsor_only s.sponsors (choice, login) q Withdrawn there
own-sponsors_stay s at (Adopt choice (Developer login)) q there = either (is_active_sponsor s.sponsors (choice, login))
  where
    either : (b : Bool) → is_some (get (cond b (insert s.sponsors (choice, login) Withdrawn) s.sponsors) q) ≡ true
    either true = stays-insert sponsor_total sponsor_only s.sponsors (choice, login) q Withdrawn there
    either false = there
own-sponsors_stay s at (Adopt choice Leader) q there = there
own-sponsors_stay s at (Adopt choice Committee) q there = there
own-sponsors_stay s at other q there = there

-- no sponsor vanishes
pub sponsors_stay : (s : State) (at : ℕ) (act : Act) (q : SponsorKey) → is_some (get s.sponsors q) ≡ true
    → is_some (get (effect s at act).sponsors q) ≡ true
sponsors_stay s at act q there =
    ap (λ sponsors. is_some (get sponsors q)) (sponsors-booked (gaining s act) (losing act) at (own s at act)) ∙ own-sponsors_stay s at act q there

-- ==== ballots

-- an act leaves the ballots that it does not put
pub ballots_left : (s : State) (at : ℕ) (act : Act) (q : BallotKey) → is_among ballot_cmp q (ballots_put act) ≡ false
    → get (effect s at act).ballots q ≡ get s.ballots q
ballots_left s at (Vote resolution login ranks token) q not_among =
    get-put_other ballot_total ballot_only s.ballots (resolution, login) q
    (new_ballot (get s.ballots (resolution, login)) resolution login ranks token)
    (first_differs ballot_total ballot_only q (resolution, login) [] not_among)
ballots_left s at act q not_among = ap (λ ballots. get ballots q) (ballots-effect s at act refl)

-- no ballot vanishes
pub ballots_stay : (s : State) (at : ℕ) (act : Act) (q : BallotKey) → is_some (get s.ballots q) ≡ true
    → is_some (get (effect s at act).ballots q) ≡ true
ballots_stay s at (Vote resolution login ranks token) q there =
    let ballot = new_ballot (get s.ballots (resolution, login)) resolution login ranks token in
    stays-insert ballot_total ballot_only s.ballots (resolution, login) q ballot there
ballots_stay s at act q there = ap (λ ballots. is_some (get ballots q)) (ballots-effect s at act refl) ∙ there
