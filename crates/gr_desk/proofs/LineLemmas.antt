-- What a line says of the desk that it opened.
use Rattle.std.proofs.Common.{◌≡◌, ◌∙◌, ℕ, ◌+◌, ◌-◌, ◌^◌, ◌<◌, ◌≤◌, Bool, min, List, [], ◌∷◌, ◌++◌, length, take, Option, None, Some, Result, Ok, Err, ap, refl, sym, subst, inl, inr, arith}
use Rattle.std.proofs.lemmas.List.{length-take, take_all}
use Rattle.std.specs.Prelude.{⊤, IfErr, IfSome, MatchOption, OnOk, option_map}
use Rattle.std.specs.Io.KnownBytes.{Appends}
use Rattle.sqlite_trees.specs.declared.store.Store.{Ghosts}
use Rattle.sqlite.specs.Held.{Held, state}
use Rattle.sqlite.specs.State.{HasCleanDisk, Opens}
use Rattle.gr_core.specs.Desks.State.{State, new_state}
use Rattle.gr_core.specs.Desks.Valid.{IsValid}
use Rattle.gr_core.specs.Desks.Version1.{IsValid1}
use Rattle.gr_core.proofs.Contents.StableLemmas.{lt_or_ge}
use Rattle.gr_core.proofs.Validity.ValidLemmas.{new_valid}
use Rattle.gr_store.specs.Commits.{LeavesDesk}
use Rattle.gr_store.specs.Version1.{LeavesDesk1}
use Rattle.gr_office.specs.History.{Attempt, Makes, keeper}
use Rattle.gr_office.specs.Office.{IsOpenWith, Keeps, Office}
use Rattle.gr_office.proofs.CrashLemmas.{made_clean}
use Rattle.gr_desk.specs.Connections.{Between, AreConnections, AreOfAll, AreOfConnection, IsConnection, Refusals}
use Rattle.gr_http.specs.Streams.{AppendsBeginning}
use Rattle.gr_http.specs.declared.limits.TheConstants.{MAX_BODY_BYTES}
use Rattle.gr_http.specs.RollFile.{roll_in}
use Rattle.gr_core.specs.Machine.Import.{RollRow}
use Rattle.gr_desk.specs.declared.ending.Ending.{Ending}
use Rattle.gr_desk.specs.declared.ending.Ending.TheVariants as ending
use Rattle.gr_desk.specs.declared.failure.Failure.{Failure}
use Rattle.gr_desk.specs.declared.failure.Failure.TheVariants as failures
use Rattle.gr_desk.specs.Spans.{ComesNext}
use Rattle.gr_desk.specs.Host.{Access, AsksFor, Bytes, Content, HasRightSums, HoldsDesk, HoldsDesk1, IsConnected, IsDeskOf, IsTaken, IsThere, IsUnconnected, IsUnopened, IsUnreadable, Known, LeavesFiles, LeavesOthers, NewDesk, StillHasDesk, ToOpen, ToRead}
use Rattle.gr_desk.specs.Lines.{AsksForRollThen, ImportDoes, IsReadOf, IsUnheard, IsUnread, Prints, ServeDoes, Unopened}
use Rattle.gr_desk.specs.Steps.{ImportsRows}
use Rattle.gr_desk.proofs.ServeLemmas.{calls_of}
use Rattle.gr_desk.proofs.SumLemmas.{none_found}

-- a text was printed
pub prints : {T : Type 0} (text : List ℕ) (old new : Option (List ℕ)) (done : Result T Failure)
    → OnOk done (Appends old new text)
    → IfErr done (λ failure. (failure ≡ failures.Lost) × AppendsBeginning old new text)
    → Prints text old new done
prints {T} text old new (Ok x) whole lost = whole
prints {T} text old new (Err failure) whole (is, begun) =
    subst (λ failure. Prints {T = T} text old new (Err failure)) (sym is) begun

module _ {S : Type 0} (g : Ghosts S) where
  -- where a connection was opened over a file, no page of it had a wrong sum
  pub right_sums_of : (known : Option Content) (conn : Held S) → IsConnected g known conn → HasCleanDisk (state g conn)
      → HasRightSums known
  right_sums_of None conn connected clean = tt
  right_sums_of (Some (Bytes image)) conn connected clean = λ wrong. none_found image wrong _ (connected.found clean).2.reads
  right_sums_of (Some NewDesk) conn connected clean = tt

  -- what is so of each desk that a connection shows is so of the one that the file held
  pub of_held : (known : Option Content) (conn : Held S) (Clean : Type 0) (P : State → Type 0) → IsConnected g known conn
      → (Clean → HasCleanDisk (state g conn))
      → (Clean → Opens (state g conn) → (s : State) → IsValid s → LeavesDesk s (state g conn).now.trees → P s)
      → (Clean → (s : State) → IsValid s → Keeps g s conn → P s)
      → Clean
      → MatchOption known ⊤ (λ content. (s : State) → HoldsDesk content s → P s)
  of_held None conn Clean P connected was held keeps clean = tt
  of_held (Some (Bytes image)) conn Clean P connected was held keeps clean = λ s (valid, (db, holds, leaves)).
      let found = connected.found (was clean) in
      let there : (state g conn).now.trees ≡ db = ap (λ d. d.trees) found.0.clean ∙ found.2.holds db holds in
      held clean found.0 s valid (subst (LeavesDesk s) (sym there) leaves)
  of_held (Some NewDesk) conn Clean P connected was held keeps clean = λ s is.
      subst P (sym is) (keeps clean new_state new_valid (connected.found (was clean)))

  -- so it is of one of version 1
  pub of_held_1 : (known : Option Content) (conn : Held S) (Clean : Type 0) (P : State → Type 0) → IsConnected g known conn
      → (Clean → HasCleanDisk (state g conn))
      → (Clean → Opens (state g conn) → (s : State) → IsValid1 s → LeavesDesk1 s (state g conn).now.trees → P s)
      → Clean
      → MatchOption known ⊤ (λ content. (s : State) → HoldsDesk1 content s → P s)
  of_held_1 None conn Clean P connected was held clean = tt
  of_held_1 (Some (Bytes image)) conn Clean P connected was held clean = λ s (valid, (db, holds, leaves)).
      let found = connected.found (was clean) in
      let there : (state g conn).now.trees ≡ db = ap (λ d. d.trees) found.0.clean ∙ found.2.holds db holds in
      held clean found.0 s valid (subst (LeavesDesk1 s) (sym there) leaves)
  of_held_1 (Some NewDesk) conn Clean P connected was held clean = λ s never. absurd never

  -- so it is said of a later connection whose disk is clean only where the office's was
  pub desk_at : (known : Known) (file : List ℕ) (office : Office S) (mid last : Held S) → IsDeskOf g known file office mid
      → (HasCleanDisk (state g last) → HasCleanDisk (state g mid)) → IsDeskOf g known file office last
  desk_at known file office mid last is back = record {
    before = is.before;
    there = is.there;
    connected = is.connected;
    wrote_nothing = is.wrote_nothing;
    found = λ clean. is.found (back clean);
    open_with = λ clean. is.open_with (back clean);
    not_desk1 = λ clean. is.not_desk1 (back clean);
    right_sums = λ clean. is.right_sums (back clean);
  }

  -- a connection that is the office's own is as clean as it
  pub same_clean : (last conn : Held S) → last ≡ conn → HasCleanDisk (state g last) → HasCleanDisk (state g conn)
  same_clean last conn same clean = subst (λ (h : Held S). HasCleanDisk (state g h)) same clean

  -- a disk that is clean after an attempt was clean before it
  pub clean_act : (before after : Office S) (attempt : Attempt) → Makes g before attempt after
      → HasCleanDisk (state g after.conn) → HasCleanDisk (state g before.conn)
  clean_act before after attempt makes = made_clean (keeper g) before after (attempt ∷ []) (after, makes, refl)

  -- connections at such moments are connections at such
  pub at_moments : (P Q : ℕ → Type 0) → ((t : ℕ) → P t → Q t) → (first last : Between S) (betweens : List (Between S))
      → AreConnections g P first betweens last → AreConnections g Q first betweens last
  at_moments P Q are first last [] same = same
  at_moments P Q are first last (next ∷ behind) (connection, rest) = (one connection, at_moments P Q are next last behind rest)
    where
      one : IsConnection g P first next → IsConnection g Q first next
      one (bytes, brings, inl (at, moment, response, told)) = (bytes, brings, inl (at, are at moment, response, told))
      one (bytes, brings, inr unread) = (bytes, brings, inr unread)

  -- and what they made at such moments they made at such
  pub of_moments : (P Q : ℕ → Type 0) → ((t : ℕ) → P t → Q t) → (first : Between S) (betweens : List (Between S))
      (attempts : List Attempt)
      → AreOfAll P first betweens attempts → AreOfAll Q first betweens attempts
  of_moments P Q are first [] attempts same = same
  of_moments P Q are first (next ∷ behind) attempts (now, later, is, of, rest) =
      (now, later, is, one of, of_moments P Q are next behind later rest)
    where
      one : AreOfConnection P first next now → AreOfConnection Q first next now
      one (inl (at, moment, response, told)) = inl (at, are at moment, response, told)
      one (inr unread) = inr unread

  -- a disk that is clean after connections was clean before them
  pub clean_connections : (P : ℕ → Type 0) (first last : Between S) (betweens : List (Between S))
      → AreConnections g P first betweens last
      → HasCleanDisk (state g last.office.conn) → HasCleanDisk (state g first.office.conn)
  clean_connections P first last betweens are =
      let calls = calls_of g P first last betweens are in
      made_clean (keeper g) first.office last.office calls.0 calls.1

  -- ==== what is known stays known

  -- what is said of a desk that was opened stays, where as much is known of the file
  pub desk_same : (known then : Known) (file : List ℕ) (office : Office S) (last : Held S)
      → then.there file ≡ known.there file → then.content file ≡ known.content file
      → IsDeskOf g then file office last → IsDeskOf g known file office last
  desk_same known then file office last there content is = record {
    before = is.before;
    there = subst IsThere there is.there;
    connected = subst (λ it. IsConnected g it is.before) content is.connected;
    wrote_nothing = is.wrote_nothing;
    found = is.found;
    open_with = λ clean. subst (λ it. MatchOption it ⊤ (λ content. (s : State) → HoldsDesk content s → IsOpenWith g s office))
        content (is.open_with clean);
    not_desk1 = λ clean. subst (λ it. MatchOption it ⊤ (λ content. (s : State) → ¬ (HoldsDesk1 content s))) content
        (is.not_desk1 clean);
    right_sums = λ clean. subst HasRightSums content (is.right_sums clean);
  }

  -- so does what is said of one that was not
  pub unopened_same : (known then : Known) (file : List ℕ) (failure : Failure) (left : Ending S)
      → then.there file ≡ known.there file → then.content file ≡ known.content file
      → IsUnopened g then file failure left → IsUnopened g known file failure left
  unopened_same known then file failure ending.Nothing there content is =
      subst (λ it. IsUnconnected (known.there file) it failure) content
      (subst (λ it. IsUnconnected it (then.content file) failure) there is)
  unopened_same known then file failure (ending.LetGo conn) there content
      (fault, told, was, before, connected, fails, still) = (
        fault,
        told,
        subst IsThere there was,
        before,
        subst (λ it. IsConnected g it before) content connected,
        fails,
        subst (λ it. StillHasDesk g it conn) content still,
      )
  unopened_same known then file failure (ending.Close conn) there content never = absurd never

  -- ==== a line that opened no desk

  pub serve_unopened : (known : Known) (file : List ℕ) (Refused : Refusals) (P : ℕ → Type 0) (port count : ℕ)
      (old : Option (List ℕ))
      (failure : Failure)
      (left : Ending S)
      → IsUnopened g known file failure left → ServeDoes g known file Refused P port count old old (Err failure) left
  serve_unopened known file Refused P port count old failure ending.Nothing is = (failure, refl, is, refl)
  serve_unopened known file Refused P port count old failure (ending.LetGo conn) is = Unopened (failure, refl, is, refl)
  serve_unopened known file Refused P port count old failure (ending.Close conn) is = absurd is

  -- ==== an import

  -- an import over a file that was not opened
  pub import_unopened : (T : Type 0) (known : Known) (file roll : List ℕ) (P : ℕ → Type 0) (old : Option (List ℕ))
      (failure : Failure)
      (left : Ending S)
      → IsUnopened g known file failure left → ImportDoes g known file roll P old old (Err failure) left
  import_unopened T known file roll P old failure ending.Nothing is = inl (failure, refl, is, refl)
  import_unopened T known file roll P old failure (ending.LetGo conn) is = inl (failure, refl, is, refl)
  import_unopened T known file roll P old failure (ending.Close conn) is = absurd is

  -- a file that is there was asked for after the roll file
  pub asked_roll_then : (there : Option Bool) (left : Ending S) (roll file : List ℕ) (was mid now : Option (List Access))
      → IsThere there → ComesNext was mid (ToRead roll) → AsksFor left (ToOpen file) mid now
      → AsksForRollThen there left roll file was now
  asked_roll_then there ending.Nothing roll file was mid now is next same =
      inr (is, subst (λ asked. ComesNext was asked (ToRead roll)) (sym same) next)
  asked_roll_then there (ending.LetGo conn) roll file was mid now is next asks = (is, mid, next, asks)
  asked_roll_then there (ending.Close conn) roll file was mid now is next asks = (is, mid, next, asks)

  -- a disk that is clean after an import was clean before it
  pub clean_import : (T : Type 0) (before after : Office S) (at : ℕ) (rows : List RollRow) (old new : Option (List ℕ))
      (done : Result T Failure)
      → ImportsRows g before at rows old new done after → HasCleanDisk (state g after.conn) → HasCleanDisk (state g before.conn)
  clean_import T before after at rows old new (Ok done) (reply, whole, acted) = clean_act before after _ acted.makes
  clean_import T before after at rows old new (Err failures.Lost) (reply, begun, acted) = clean_act before after _ acted.makes
  clean_import T before after at rows old new (Err (failures.Refused refusal)) (same, acted) = clean_act before after _ acted.makes
  clean_import T before after at rows old new (Err (failures.Fault fault)) (same, acted) = clean_act before after _ acted.makes
  clean_import T before after at rows old new (Err failures.TooLarge) never = absurd never
  clean_import T before after at rows old new (Err (failures.BadRoll number)) never = absurd never
  clean_import T before after at rows old new (Err failures.NoFile) never = absurd never
  clean_import T before after at rows old new (Err failures.CannotRead) never = absurd never
  clean_import T before after at rows old new (Err failures.CannotListen) never = absurd never
  clean_import T before after at rows old new (Err failures.CannotAccept) never = absurd never

-- ==== what stays known of others

-- of two calls, one after the other, the first of which leaves all files
pub others_behind : (file : List ℕ) (old mid new : Known) → LeavesFiles old mid → LeavesOthers file mid new
    → LeavesOthers file old new
others_behind file old mid new files others = (
  λ name other. (
    (others.0 name other).0 ∙ (files name).0,
    later (new.content name) (mid.content name) (old.content name) (files name).1 (others.0 name other).1,
  ),
  λ name. others.1 name ∙ (files name).2,
)
  where
    later : (new mid old : Option Content) → mid ≡ old → MatchOption new ⊤ (λ it. mid ≡ Some it)
        → MatchOption new ⊤ (λ it. old ≡ Some it)
    later None mid old same known = tt
    later (Some it) mid old same known = sym same ∙ known

-- ==== a port

-- what a host says of a port that it does not listen on is said by the line, which has written nothing then
pub unheard : (awaited : Option (List (List ℕ))) (port : ℕ) (old : Option (List ℕ)) (failure : Failure)
    → IsTaken awaited failure → IsUnheard awaited port old old failure
unheard awaited port old failures.CannotListen is = (is, refl)
unheard awaited port old (failures.Fault fault) is = (is, refl)
unheard awaited port old (failures.Refused refusal) never = absurd never
unheard awaited port old failures.TooLarge never = absurd never
unheard awaited port old (failures.BadRoll number) never = absurd never
unheard awaited port old failures.NoFile never = absurd never
unheard awaited port old failures.CannotRead never = absurd never
unheard awaited port old failures.CannotAccept never = absurd never
unheard awaited port old failures.Lost never = absurd never

-- ==== a roll file

-- what a host says of one that it does not read is said by the line
pub unread : (roll : Option (List ℕ)) (failure : Failure) → IsUnreadable roll failure → IsUnread roll failure
unread roll failures.CannotRead is = is
unread roll (failures.Fault fault) is = is
unread roll (failures.Refused refusal) never = absurd never
unread roll failures.TooLarge never = absurd never
unread roll (failures.BadRoll number) never = absurd never
unread roll failures.NoFile never = absurd never
unread roll failures.CannotListen never = absurd never
unread roll failures.CannotAccept never = absurd never
unread roll failures.Lost never = absurd never

-- of more bytes than are taken there are more than that
pub too_large : (known : Option (List ℕ)) (items : List ℕ) (most : ℕ)
    → MatchOption known ⊤ (λ all. items ≡ take (most + 1) all) → most < length items
    → MatchOption known ⊤ (λ all. most < length all)
too_large None items most same longer = tt
too_large (Some all) items most same longer =
    let short = length-take (most + 1) all in
    let is : length items ≡ length (take (most + 1) all) = ap length same in
    omega (arith, short, is, longer)

-- of no more bytes than are taken all are read
pub is_roll : (known : Option (List ℕ)) (items : List ℕ) (said : Result (List RollRow) ℕ)
    → MatchOption known ⊤ (λ all. items ≡ take (MAX_BODY_BYTES + 1) all) → ¬ (MAX_BODY_BYTES < length items)
    → roll_in items ≡ said
    → IsReadOf known said
is_roll None items said same short reads = tt
is_roll (Some all) items said same short reads =
    let taken = length-take (MAX_BODY_BYTES + 1) all in
    let is : length items ≡ length (take (MAX_BODY_BYTES + 1) all) = ap length same in
    let fits : length all ≤ MAX_BODY_BYTES = omega (arith, taken, is, short) in
    let whole : items ≡ all = same ∙ take_all (MAX_BODY_BYTES + 1) all (omega (arith, fits)) in
    (fits, subst (λ bytes. roll_in bytes ≡ said) whole reads)

-- of a file so many bytes were read, and one more, or all: a vector has no more than fit
pub read_so_far : (known : Option (List ℕ)) (items before : List ℕ) (limit most fits : ℕ) → before ≡ []
    → limit ≡ min (most + 1) (2 ^ 64 - 1) → length items ≤ fits → fits < 2 ^ 63
    → IfSome (option_map (take limit) known) (λ bytes. items ≡ before ++ bytes)
    → MatchOption known ⊤ (λ all. items ≡ take (most + 1) all)
read_so_far None items before limit most fits none is within small reads = tt
read_so_far (Some all) items before limit most fits none is within small reads =
    let read : items ≡ take limit all = reads ∙ ap (λ before. before ++ take limit all) none in
    let long : length items ≡ min limit (length all) = ap length read ∙ length-take limit all in
    elim (lt_or_ge limit (length all)) [
      | inl longer ↦
          let same : limit ≡ most + 1 = omega (arith, is, long, within, small, longer) in
          read ∙ ap (λ n. take n all) same
      | inr short ↦ read ∙ take_all limit all short ∙ sym (take_all (most + 1) all (omega (arith, short, is)))
    ]
