-- The rows that an accepted act puts, as its plan lists them.
use Rattle.std.proofs.Common.{◌≡◌, ℕ, Bool, true, false, List, [], ◌∷◌, ◌++◌, map, Option, Some, None, option_map, option_and_then, is_some, refl, sym, ap, ◌∙◌}
use Rattle.std.specs.Prelude.{ℤ, ◌&&◌, not, is_none, option_to_list, if◌then◌else◌}
use Rattle.std.proofs.lemmas.List.{append-nil}
use Rattle.std.specs.declared.cmp.Ordering.{Ordering}
use Rattle.std.specs.Cmp.{nat_cmp_total}
use Rattle.std.specs.FinMap.{FinMap, nat_cmp-IsAntisymmetric, get, insert}
use Rattle.gr_core.specs.declared.choice.ChoiceKey.{ChoiceKey}
use Rattle.gr_core.specs.declared.resolution.Resolution.{Resolution}
use Rattle.gr_core.specs.declared.resolution.Resolution.TheVariants.{Draft, Discussing}
use Rattle.gr_core.specs.declared.sponsor.Sponsorship.{Sponsorship}
use Rattle.gr_core.specs.declared.sponsor.Sponsorship.TheVariants.{Active, Withdrawn}
use Rattle.gr_core.specs.declared.command.Amendment.{Amendment}
use Rattle.gr_core.specs.declared.command.Amendment.TheVariants.{Substantial, Minor}
use Rattle.gr_core.specs.declared.bookkeeping.Gain.{Gain}
use Rattle.gr_core.specs.declared.bookkeeping.Gain.TheVariants.{Nothing, Introduction, Remedy}
use Rattle.gr_core.specs.Parts.Key.{BallotKey, sponsor_cmp}
use Rattle.gr_core.specs.Parts.Developer.{current_count}
use Rattle.gr_core.specs.Parts.Resolution.{present_discussion, entered, changed, shifted, closed, decided}
use Rattle.gr_core.specs.Parts.Choice.{ChoiceModel, Proposer, Developer, Leader, Committee, Wording, login_of_proposer}
use Rattle.gr_core.specs.Parts.Sponsor.{is_active_sponsor, sponsor_count}
use Rattle.gr_core.specs.Machine.Map.{changed_at, with_rows}
use Rattle.gr_core.specs.Desks.State.{State}
use Rattle.gr_core.specs.Machine.Bookkeeping.{is_backed, gain_of, gain_where, gain_at, gained, with_gain, becomes_short, becomes_short_where, shortened, after_loss}
use Rattle.gr_core.specs.Machine.Act.{Act, Propose, AddChoice, Sponsor, Unsponsor, Withdraw, Adopt, Amend, Vary, Call, Vote, Close, Cast}
use Rattle.gr_core.specs.Parts.Ballot.{new_ballot}
use Rattle.gr_core.specs.Machine.Row.{RowModel, ResolutionOf, ChoiceOf, SponsorOf, BallotOf, choice_of_entry}
use Rattle.gr_core.specs.Machine.Effect.{next_resolution, first_choice_key, next_choice_key, new_choice, without_sponsor, changes_ballot, live_choices, placed, called, poll_at, own, effect, only_if, is_gain, is_introduction, developer_rows, resolutions_put, choices_put, sponsors_put, ballots_put, rows_at, puts_by}
use Rattle.gr_core.proofs.Collections.PairKeys.{choice_total, choice_only}
use Rattle.gr_core.proofs.Contents.SponsorLemmas.{sponsor_total, sponsor_only}
use Rattle.gr_core.proofs.Contents.BallotKeys.{ballot_total, ballot_only}
use Rattle.gr_core.proofs.Collections.RowPutLemmas.{get-put}
use Rattle.gr_core.proofs.Collections.RowChangedLemmas.{get-changed_at}
use Rattle.gr_core.proofs.Contents.PlaceLemmas.{placed_rows-put, live_choices_sorted}

-- ==== rows of single keys

-- the row of a changed value
pub option_map-twice : {A B C : Type 0} (f : A → B) (g : B → C) (found : Option A)
    → option_map g (option_map f found) ≡ option_map (λ x. g (f x)) found
option_map-twice f g None = refl
option_map-twice f g (Some x) = refl

module _ {K R : Type 0} {cmp : K → K → Ordering} (row : K → R → RowModel) where
  -- the row of one key
  pub rows_at-one : (m : FinMap cmp R) (key : K) → rows_at row m (key ∷ [])
      ≡ option_to_list (option_map (row key) (get m key))
  rows_at-one m key = append-nil (option_to_list (option_map (row key) (get m key)))

  -- the row of one key, by what the map has there
  pub rows_at-found : (m : FinMap cmp R) (key : K) (found : Option R) → get m key ≡ found
      → rows_at row m (key ∷ []) ≡ option_to_list (option_map (row key) found)
  rows_at-found m key found is = rows_at-one m key ∙ ap (λ o. option_to_list (option_map (row key) o)) is

  -- the row of one key, by what the map had there before it was changed
  pub rows_at-changed : (m : FinMap cmp R) (key : K) (change : R → R) (old : Option R) → get m key
      ≡ option_map change old
      → rows_at row m (key ∷ []) ≡ option_to_list (option_map (λ r. row key (change r)) old)
  rows_at-changed m key change old is =
      rows_at-found m key (option_map change old) is ∙ ap option_to_list (option_map-twice change (row key) old)

-- ==== the bookkeeping

-- the row of a resolution, if this gain introduces a choice of it
abbrev pub entered_row : State → ℕ → ℕ → Gain → Option RowModel
entered_row s at resolution gain =
    if is_introduction gain then option_map (λ row. ResolutionOf resolution (entered at row)) (get s.resolutions resolution) else None

module _ (t : State) (key : ChoiceKey) where
  -- what a choice gains with as many sponsors as were counted
  pub gain_where-counted : (made row : ChoiceModel) (sponsors : ℕ) (gain : Gain) → made ≡ row
      → sponsors ≡ sponsor_count t.sponsors key
      → gain ≡ gain_of (is_backed made.proposer sponsors (current_count t.developers)) made.introduced made.short
      → gain_where t key (Some row) ≡ gain
  gain_where-counted made row sponsors gain is count gains =
      ap (λ r. gain_where t key (Some r)) (sym is)
      ∙ ap (λ n. gain_of (is_backed made.proposer n (current_count t.developers)) made.introduced made.short) (sym count)
      ∙ sym gains

  -- and whether it becomes short with so many
  pub becomes_short_where-counted : (row : ChoiceModel) (sponsors : ℕ) (short : Bool)
      → sponsors ≡ sponsor_count t.sponsors key
      → short ≡ (is_some row.introduced && is_none row.short && not (is_backed row.proposer sponsors (current_count t.developers)))
      → short ≡ becomes_short_where t key (Some row)
  becomes_short_where-counted row sponsors short count is =
      is ∙ ap (λ n. is_some row.introduced && is_none row.short && not (is_backed row.proposer n (current_count t.developers))) count

module _ (t : State) (at : ℕ) (key : ChoiceKey) where
  -- the row of the choice after what it gained
  pub get-with_gain : (gain : Gain) → get (with_gain gain t at key).choices key
      ≡ option_map (gained gain at) (get t.choices key)
  get-with_gain Nothing = sym (option_map-same (get t.choices key))
    where
      option_map-same : (found : Option ChoiceModel) → option_map (gained Nothing at) found ≡ found
      option_map-same None = refl
      option_map-same (Some row) = refl
  get-with_gain Introduction = get-changed_at choice_total choice_only t.choices key (gained Introduction at)
  get-with_gain Remedy = get-changed_at choice_total choice_only t.choices key (gained Remedy at)

  -- the row of its resolution after what the choice gained
  pub get_resolution-with_gain : (gain : Gain) (row : Resolution) → get t.resolutions key.resolution ≡ Some row
      → get (with_gain gain t at key).resolutions key.resolution
      ≡ Some (if is_introduction gain then entered at row else row)
  get_resolution-with_gain Nothing row is = is
  get_resolution-with_gain Introduction row is =
      get-changed_at nat_cmp_total nat_cmp-IsAntisymmetric t.resolutions key.resolution (entered at)
      ∙ ap (option_map (entered at)) is
  get_resolution-with_gain Remedy row is = is

  -- the row of the choice, if it gains anything
  pub choice_rows-with_gain : (gain : Gain)
      → rows_at ChoiceOf (with_gain gain t at key).choices (only_if (is_gain gain) key)
      ≡ option_to_list (if is_gain gain then option_map (λ row. ChoiceOf key (gained gain at row)) (get t.choices key) else None)
  choice_rows-with_gain Nothing = refl
  choice_rows-with_gain Introduction =
      rows_at-changed ChoiceOf _ key (gained Introduction at) (get t.choices key) (get-with_gain Introduction)
  choice_rows-with_gain Remedy =
      rows_at-changed ChoiceOf _ key (gained Remedy at) (get t.choices key) (get-with_gain Remedy)

  -- the row of its resolution, if it is introduced
  pub resolution_rows-with_gain : (gain : Gain)
      → rows_at ResolutionOf (with_gain gain t at key).resolutions (only_if (is_introduction gain) key.resolution)
      ≡ option_to_list (entered_row t at key.resolution gain)
  resolution_rows-with_gain Nothing = refl
  resolution_rows-with_gain Introduction =
      rows_at-changed ResolutionOf _ key.resolution (entered at) (get t.resolutions key.resolution)
      (get-changed_at nat_cmp_total nat_cmp-IsAntisymmetric t.resolutions key.resolution (entered at))
  resolution_rows-with_gain Remedy = refl

  -- what a choice gains leaves the sponsors
  pub sponsors-with_gain : (gain : Gain) → (with_gain gain t at key).sponsors ≡ t.sponsors
  sponsors-with_gain Nothing = refl
  sponsors-with_gain Introduction = refl
  sponsors-with_gain Remedy = refl

  -- the row of a choice that lost a proposer or a sponsor
  pub get-after_loss : get (after_loss t at key).choices key
      ≡ option_map (λ row. if becomes_short_where t key (Some row) then shortened at row else row) (get t.choices key)
  get-after_loss =
      elim (get t.choices key) as (λ o. get t.choices key ≡ o
      → get (if becomes_short_where t key o then record t { choices = changed_at t.choices key (shortened at) } else t).choices key
      ≡ option_map (λ row. if becomes_short_where t key (Some row) then shortened at row else row) o) [
        | None ↦ λ is. is
        | Some row ↦ λ is.
            elim (becomes_short_where t key (Some row)) as (λ b.
            get (if b then record t { choices = changed_at t.choices key (shortened at) } else t).choices key
            ≡ Some (if b then shortened at row else row)) [
              | true ↦ get-changed_at choice_total choice_only t.choices key (shortened at)
                  ∙ ap (option_map (shortened at)) is
              | false ↦ is
            ]
      ] refl

  -- the row of the choice, if it becomes short
  pub choice_rows-after_loss : rows_at ChoiceOf (after_loss t at key).choices (only_if (becomes_short t key) key)
      ≡ option_to_list (if becomes_short t key then option_map (λ row. ChoiceOf key (shortened at row)) (get t.choices key) else None)
  choice_rows-after_loss =
      elim (becomes_short t key) as (λ b.
      rows_at ChoiceOf (if b then record t { choices = changed_at t.choices key (shortened at) } else t).choices (only_if b key)
      ≡ option_to_list (if b then option_map (λ row. ChoiceOf key (shortened at row)) (get t.choices key) else None)) [
        | true ↦ rows_at-changed ChoiceOf _ key (shortened at) (get t.choices key) (get-changed_at choice_total choice_only t.choices key (shortened at))
        | false ↦ refl
      ]

  -- what it loses leaves them too
  pub sponsors-after_loss : (after_loss t at key).sponsors ≡ t.sponsors
  sponsors-after_loss =
      elim (becomes_short t key) as (λ b. (if b then record t { choices = changed_at t.choices key (shortened at) } else t).sponsors ≡ t.sponsors) [
        | true ↦ refl
        | false ↦ refl
      ]

-- ==== the rows of each act

-- the rows that an act puts, those of ballots aside
abbrev pub others_by : State → ℕ → Act → List RowModel
others_by s at act =
    developer_rows s act
    ++ rows_at ResolutionOf (effect s at act).resolutions (resolutions_put s at act)
    ++ rows_at ChoiceOf (effect s at act).choices (choices_put s at act)
    ++ rows_at SponsorOf (effect s at act).sponsors (sponsors_put s act)

-- they are all rows of an act that puts no ballot
pub puts_by-others : (s : State) (at : ℕ) (act : Act) → ballots_put act ≡ [] → puts_by s at act ≡ others_by s at act
puts_by-others s at act none =
    ap (λ keys. others_by s at act ++ rows_at BallotOf (effect s at act).ballots keys) none
    ∙ append-nil (others_by s at act)

-- the amendment is no minor one
abbrev pub is_substantial : Amendment → Bool
is_substantial Substantial = true
is_substantial Minor = false

-- the choice with its new proposer
abbrev pub adopted : Proposer → ChoiceModel → ChoiceModel
adopted proposer row = record row { proposer = Some proposer }

module _ (s : State) (at : ℕ) where
  -- the row of a sponsor that an act puts
  sponsor_row : (sponsors : FinMap sponsor_cmp Sponsorship) (choice : ChoiceKey) (login : List ℕ) (row : Sponsorship)
      → sponsors ≡ insert s.sponsors (choice, login) row → rows_at SponsorOf sponsors ((choice, login) ∷ [])
      ≡ SponsorOf (choice, login) row ∷ []
  sponsor_row sponsors choice login row is =
      rows_at-found SponsorOf sponsors (choice, login) (Some row)
      (ap (λ m. get m (choice, login)) is ∙ get-put sponsor_total sponsor_only s.sponsors (choice, login) row)

  -- a choice that is withdrawn, and short, if it becomes so
  pub withdraw_puts : (key : ChoiceKey) (row left : ChoiceModel) → get s.choices key ≡ Some row → left
      ≡ record row { proposer = None }
      → puts_by s at (Withdraw key)
      ≡ ChoiceOf key (if becomes_short_where (own s at (Withdraw key)) key (Some left) then shortened at left else left) ∷ []
  withdraw_puts key row left there is =
      let t = own s at (Withdraw key) in
      let withdrawn : ChoiceModel → ChoiceModel = λ r. record r { proposer = None } in
      let after : ChoiceModel → ChoiceModel = λ r. if becomes_short_where t key (Some r) then shortened at r else r in
      puts_by-others s at (Withdraw key) refl
      ∙ append-nil (rows_at ChoiceOf (after_loss t at key).choices (key ∷ []))
      ∙ rows_at-found ChoiceOf (after_loss t at key).choices key (Some (after left))
      (get-after_loss t at key
      ∙ ap (option_map after) (get-changed_at choice_total choice_only s.choices key withdrawn
      ∙ ap (option_map withdrawn) there)
      ∙ ap (λ r. Some (after r)) (sym is))

  -- a choice that becomes short, if it does, and the sponsor who left it
  pub unsponsor_puts : (key : ChoiceKey) (login : List ℕ) → puts_by s at (Unsponsor key login)
      ≡ option_to_list (if becomes_short (own s at (Unsponsor key login)) key
      then option_map (λ row. ChoiceOf key (shortened at row)) (get s.choices key) else None)
      ++ SponsorOf (key, login) Withdrawn ∷ []
  unsponsor_puts key login =
      let t = own s at (Unsponsor key login) in
      let choices = choice_rows-after_loss t at key in
      let sponsors = sponsor_row (after_loss t at key).sponsors key login Withdrawn (sponsors-after_loss t at key) in
      puts_by-others s at (Unsponsor key login) refl ∙ (λ i. choices i ++ sponsors i)

  -- what the choice gains, and its new sponsor
  pub sponsor_puts : (key : ChoiceKey) (login : List ℕ) (gain : Gain) → gain_at (own s at (Sponsor key login)) key
      ≡ gain
      → puts_by s at (Sponsor key login)
      ≡ option_to_list (entered_row s at key.resolution gain)
      ++ option_to_list (if is_gain gain then option_map (λ row. ChoiceOf key (gained gain at row)) (get s.choices key) else None)
      ++ SponsorOf (key, login) Active ∷ []
  sponsor_puts key login gain is =
      let t = own s at (Sponsor key login) in
      let resolutions = resolution_rows-with_gain t at key gain in
      let choices = choice_rows-with_gain t at key gain in
      let sponsors = sponsor_row (with_gain gain t at key).sponsors key login Active (sponsors-with_gain t at key gain) in
      puts_by-others s at (Sponsor key login) refl
      ∙ ap (λ g. rows_at ResolutionOf (with_gain g t at key).resolutions (only_if (is_introduction g) key.resolution)
      ++ rows_at ChoiceOf (with_gain g t at key).choices (only_if (is_gain g) key)
      ++ rows_at SponsorOf (with_gain g t at key).sponsors ((key, login) ∷ [])) is
      ∙ (λ i. resolutions i ++ choices i ++ sponsors i)

  -- the row of a new proposer who was a sponsor
  resting_rows : (sponsors : FinMap sponsor_cmp Sponsorship) (key : ChoiceKey) (proposer : Proposer)
      → sponsors ≡ without_sponsor s.sponsors key (login_of_proposer proposer)
      → rows_at SponsorOf sponsors (sponsors_put s (Adopt key proposer))
      ≡ map (λ sponsor. SponsorOf sponsor Withdrawn) (sponsors_put s (Adopt key proposer))
  resting_rows sponsors key Leader is = refl
  resting_rows sponsors key Committee is = refl
  resting_rows sponsors key (Developer login) is =
      elim (is_active_sponsor s.sponsors (key, login)) as (λ b. sponsors
      ≡ (if b then insert s.sponsors (key, login) Withdrawn else s.sponsors)
      → rows_at SponsorOf sponsors (only_if b (key, login))
      ≡ map (λ sponsor. SponsorOf sponsor Withdrawn) (only_if b (key, login))) [
        | true ↦ λ put. sponsor_row sponsors key login Withdrawn put
        | false ↦ λ same. refl
      ] is

  -- what the choice gains with its new proposer, who sponsors it no more
  pub adopt_puts : (key : ChoiceKey) (proposer : Proposer) (gain : Gain)
      → gain_where (own s at (Adopt key proposer)) key (option_map (adopted proposer) (get s.choices key)) ≡ gain
      → puts_by s at (Adopt key proposer)
      ≡ option_to_list (entered_row s at key.resolution gain)
      ++ option_to_list (option_map (λ row. ChoiceOf key (gained gain at (adopted proposer row))) (get s.choices key))
      ++ map (λ sponsor. SponsorOf sponsor Withdrawn) (sponsors_put s (Adopt key proposer))
  adopt_puts key proposer gain is =
      let t = own s at (Adopt key proposer) in
      let now : get t.choices key ≡ option_map (adopted proposer) (get s.choices key) =
      get-changed_at choice_total choice_only s.choices key (adopted proposer) in
      let gains : gain_at t key ≡ gain = ap (gain_where t key) now ∙ is in
      let resolutions = resolution_rows-with_gain t at key gain in
      let choices = rows_at-changed ChoiceOf (with_gain gain t at key).choices key (λ row. gained gain at (adopted proposer row)) (get s.choices key)
      (get-with_gain t at key gain ∙ ap (option_map (gained gain at)) now
      ∙ option_map-twice (adopted proposer) (gained gain at) (get s.choices key)) in
      let sponsors = resting_rows (with_gain gain t at key).sponsors key proposer (sponsors-with_gain t at key gain) in
      puts_by-others s at (Adopt key proposer) refl
      ∙ ap (λ g. rows_at ResolutionOf (with_gain g t at key).resolutions (only_if (is_introduction g) key.resolution)
      ++ rows_at ChoiceOf (with_gain g t at key).choices (key ∷ [])
      ++ rows_at SponsorOf (with_gain g t at key).sponsors (sponsors_put s (Adopt key proposer))) gains
      ∙ (λ i. resolutions i ++ choices i ++ sponsors i)

  -- a new resolution, and its first choice with what it gains
  pub propose_puts : (proposer : Proposer) (wording : Wording) (ratio : ℕ) (gain : Gain)
      → gain_where (own s at (Propose proposer wording ratio)) (first_choice_key s) (Some (new_choice proposer wording ratio)) ≡ gain
      → puts_by s at (Propose proposer wording ratio)
      ≡ ResolutionOf (next_resolution s) (if is_introduction gain then entered at Draft else Draft)
      ∷ ChoiceOf (first_choice_key s) (gained gain at (new_choice proposer wording ratio)) ∷ []
  propose_puts proposer wording ratio gain is =
      let t = own s at (Propose proposer wording ratio) in
      let key = first_choice_key s in
      let row = new_choice proposer wording ratio in
      let now : get t.choices key ≡ Some row = get-put choice_total choice_only s.choices key row in
      let draft : get t.resolutions (next_resolution s) ≡ Some Draft =
      get-put nat_cmp_total nat_cmp-IsAntisymmetric s.resolutions (next_resolution s) Draft in
      let gains : gain_at t key ≡ gain = ap (gain_where t key) now ∙ is in
      let resolutions = rows_at-found ResolutionOf (with_gain gain t at key).resolutions (next_resolution s)
      (Some (if is_introduction gain then entered at Draft else Draft)) (get_resolution-with_gain t at key gain Draft draft) in
      let choices = rows_at-found ChoiceOf (with_gain gain t at key).choices key (Some (gained gain at row))
      (get-with_gain t at key gain ∙ ap (option_map (gained gain at)) now) in
      puts_by-others s at (Propose proposer wording ratio) refl
      ∙ ap (λ g. rows_at ResolutionOf (with_gain g t at key).resolutions (next_resolution s ∷ [])
      ++ rows_at ChoiceOf (with_gain g t at key).choices (key ∷ []) ++ []) gains
      ∙ (λ i. resolutions i ++ choices i ++ [])

  -- a new choice with what it gains, and its resolution, if the choice is introduced
  pub add_choice_puts : (resolution : ℕ) (proposer : Proposer) (wording : Wording) (ratio : ℕ) (gain : Gain)
      → gain_where (own s at (AddChoice resolution proposer wording ratio)) (next_choice_key s resolution) (Some (new_choice proposer wording ratio)) ≡ gain
      → puts_by s at (AddChoice resolution proposer wording ratio)
      ≡ option_to_list (entered_row s at resolution gain)
      ++ ChoiceOf (next_choice_key s resolution) (gained gain at (new_choice proposer wording ratio)) ∷ [] ++ []
  add_choice_puts resolution proposer wording ratio gain is =
      let t = own s at (AddChoice resolution proposer wording ratio) in
      let key = next_choice_key s resolution in
      let row = new_choice proposer wording ratio in
      let now : get t.choices key ≡ Some row = get-put choice_total choice_only s.choices key row in
      let gains : gain_at t key ≡ gain = ap (gain_where t key) now ∙ is in
      let resolutions = resolution_rows-with_gain t at key gain in
      let choices = rows_at-found ChoiceOf (with_gain gain t at key).choices key (Some (gained gain at row))
      (get-with_gain t at key gain ∙ ap (option_map (gained gain at)) now) in
      puts_by-others s at (AddChoice resolution proposer wording ratio) refl
      ∙ ap (λ g. rows_at ResolutionOf (with_gain g t at key).resolutions (only_if (is_introduction g) resolution)
      ++ rows_at ChoiceOf (with_gain g t at key).choices (key ∷ []) ++ []) gains
      ∙ (λ i. resolutions i ++ choices i ++ [])

  -- the row of a resolution that an act changes, and nothing else
  changed_rows : (resolution : ℕ) (change : Resolution → Resolution)
      → rows_at ResolutionOf (changed_at s.resolutions resolution change) (resolution ∷ []) ++ [] ++ []
      ≡ option_to_list (option_map (λ row. ResolutionOf resolution (change row)) (get s.resolutions resolution))
      ++ [] ++ []
  changed_rows resolution change =
      ap (λ rows. rows ++ [] ++ [])
      (rows_at-changed ResolutionOf (changed_at s.resolutions resolution change) resolution change
      (get s.resolutions resolution)
      (get-changed_at nat_cmp_total nat_cmp-IsAntisymmetric s.resolutions resolution change))

  -- a discussion that is varied
  pub vary_puts : (resolution : ℕ) (days : ℤ) → puts_by s at (Vary resolution days)
      ≡ option_to_list (option_map (λ row. ResolutionOf resolution (shifted days row)) (get s.resolutions resolution))
      ++ [] ++ []
  vary_puts resolution days =
      puts_by-others s at (Vary resolution days) refl ∙ changed_rows resolution (shifted days)

  -- a ballot
  pub vote_puts : (resolution : ℕ) (login ranks token : List ℕ) → puts_by s at (Vote resolution login ranks token)
      ≡ BallotOf (resolution, login) (new_ballot (get s.ballots (resolution, login)) resolution login ranks token) ∷ []
  vote_puts resolution login ranks token =
      let key : BallotKey = (resolution, login) in
      let ballot = new_ballot (get s.ballots key) resolution login ranks token in
      rows_at-found BallotOf (insert s.ballots key ballot) key (Some ballot)
      (get-put ballot_total ballot_only s.ballots key ballot)

  -- a vote that is closed
  pub close_puts : (resolution : ℕ) → puts_by s at (Close resolution)
      ≡ option_to_list (option_map (λ row. ResolutionOf resolution (closed row)) (get s.resolutions resolution))
      ++ [] ++ []
  close_puts resolution = puts_by-others s at (Close resolution) refl ∙ changed_rows resolution closed

  -- a casting vote
  pub cast_puts : (resolution place : ℕ) → puts_by s at (Cast resolution place)
      ≡ option_to_list (option_map (λ row. ResolutionOf resolution (decided place row)) (get s.resolutions resolution))
      ++ [] ++ []
  cast_puts resolution place =
      puts_by-others s at (Cast resolution place) refl ∙ changed_rows resolution (decided place)

  -- no row, either way
  none : (b : Bool) → ◌≡◌ {A = List RowModel} [] (option_to_list (if b then None else None))
  none true = refl
  none false = refl

  -- a discussion whose ballot changes
  amended_resolution : (number : ℕ) (amendment : Amendment) (row : ChoiceModel) (old : Option Resolution)
      → get s.resolutions number ≡ old
      → rows_at ResolutionOf (if changes_ballot amendment old (Some row) then changed_at s.resolutions number (changed at) else s.resolutions)
      (only_if (changes_ballot amendment old (Some row)) number)
      ≡ option_to_list (if is_substantial amendment && is_some row.introduced
      then option_map (λ discussion. ResolutionOf number (changed at (Discussing discussion))) (option_and_then present_discussion old) else None)
  amended_resolution number Minor row old is = refl
  amended_resolution number Substantial row None is = none (is_some row.introduced)
  amended_resolution number Substantial row (Some (Discussing discussion)) is =
      elim (is_some row.introduced) as (λ b.
      rows_at ResolutionOf (if b then changed_at s.resolutions number (changed at) else s.resolutions) (only_if b number)
      ≡ option_to_list (if b then Some (ResolutionOf number (changed at (Discussing discussion))) else None)) [
        | true ↦ rows_at-found ResolutionOf _ number (Some (changed at (Discussing discussion)))
            (get-changed_at nat_cmp_total nat_cmp-IsAntisymmetric s.resolutions number (changed at)
            ∙ ap (option_map (changed at)) is)
        | false ↦ refl
      ]
  amended_resolution number Substantial row (Some other) is = none (is_some row.introduced)

  -- a choice with other words, and its resolution, if its ballot changes
  pub amend_puts : (key : ChoiceKey) (amendment : Amendment) (wording : Wording) (row : ChoiceModel) → get s.choices key
      ≡ Some row
      → puts_by s at (Amend key amendment wording)
      ≡ option_to_list (if is_substantial amendment && is_some row.introduced
      then option_map (λ discussion. ResolutionOf key.resolution (changed at (Discussing discussion)))
      (option_and_then present_discussion (get s.resolutions key.resolution)) else None)
      ++ ChoiceOf key (record row { wording = wording }) ∷ [] ++ []
  amend_puts key amendment wording row there =
      let other : ChoiceModel → ChoiceModel = λ old. record old { wording = wording } in
      let resolutions = amended_resolution key.resolution amendment row (get s.resolutions key.resolution) refl in
      let choices = rows_at-found ChoiceOf (effect s at (Amend key amendment wording)).choices key (Some (other row))
      (get-changed_at choice_total choice_only s.choices key other ∙ ap (option_map other) there) in
      puts_by-others s at (Amend key amendment wording) refl
      ∙ ap (λ o. rows_at ResolutionOf
      (if changes_ballot amendment (get s.resolutions key.resolution) o then changed_at s.resolutions key.resolution (changed at) else s.resolutions)
      (only_if (changes_ballot amendment (get s.resolutions key.resolution) o) key.resolution)
      ++ rows_at ChoiceOf (effect s at (Amend key amendment wording)).choices (key ∷ []) ++ []) there
      ∙ (λ i. resolutions i ++ choices i ++ [])

  -- the live choices with their places, or none, and the resolution with its vote or cancelled
  pub call_puts : (resolution : ℕ) (days : ℤ) → let live = live_choices s.choices at resolution in
      puts_by s at (Call resolution days)
      ≡ option_to_list (option_map (λ row. ResolutionOf resolution (called live (poll_at s at days) row)) (get s.resolutions resolution))
      ++ map choice_of_entry (placed 1 live)
  call_puts resolution days =
      let live = live_choices s.choices at resolution in
      let calls : Resolution → Resolution = called live (poll_at s at days) in
      let resolutions = rows_at-changed ResolutionOf (changed_at s.resolutions resolution calls) resolution calls (get s.resolutions resolution)
      (get-changed_at nat_cmp_total nat_cmp-IsAntisymmetric s.resolutions resolution calls) in
      let choices = placed_rows-put s.choices live (live_choices_sorted s.choices at resolution) in
      puts_by-others s at (Call resolution days) refl
      ∙ append-nil (rows_at ResolutionOf (changed_at s.resolutions resolution calls) (resolution ∷ [])
      ++ rows_at ChoiceOf (with_rows s.choices (placed 1 live)) (map (λ entry. entry.0) live))
      ∙ (λ i. resolutions i ++ choices i)
