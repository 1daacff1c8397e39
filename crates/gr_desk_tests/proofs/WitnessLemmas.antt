-- What one line makes of the desk in the file of a host, and what the lines of a vote make of it.
use Rattle.std.proofs.Common.{◌≡◌, ◌∙◌, ℕ, List, [], ◌∷◌, Option, Some, Result, Ok, Err, true, false, refl, sym, ap, subst, inl, inr, arith}
use Rattle.std.proofs.Math.Logic.{∥∥₁_elim, ∥∥₁_map, ∥∥₁_prop}
use Rattle.std.specs.Prelude.{◌⊎◌, ⊤, IfSome, MatchOption, is_ok, string_bytes}
use Rattle.std.specs.Io.KnownBytes.{Appends}
use Rattle.sqlite.specs.Files.{HoldsDatabase}
use Rattle.sqlite.specs.Held.{Held, state}
use Rattle.sqlite.specs.State.{HasCleanDisk}
use Rattle.sqlite_trees.specs.Tree.{Trees}
use Rattle.sqlite_trees.specs.declared.store.Store.{Ghosts}
use Rattle.sqlite_wal.specs.Recovery.{Image}
use Rattle.gr_core.specs.Desks.State.{State, new_state}
use Rattle.gr_core.specs.Desks.Valid.{IsValid}
use Rattle.gr_core.specs.Laws.MachineLaws.{CommandsKeepADeskValid}
use Rattle.gr_core.specs.Machine.Act.{Act, ImportRoll}
use Rattle.gr_core.specs.Machine.Import.{RollRow}
use Rattle.gr_core.specs.Machine.Step as step
use Rattle.gr_core.proofs.Validity.ValidLemmas.{new_valid}
use Rattle.gr_store.specs.declared.fault.Fault.TheVariants.{Memory}
use Rattle.gr_sheet.specs.declared.kind.Kind.TheVariants as kinds
use Rattle.gr_sheet.specs.Sheet.{IsSheet}
use Rattle.gr_office.specs.Crash.{Acknowledged, Interrupted, NotDone, Refused, ReplyLost}
use Rattle.gr_office.specs.History.{Fate, Makes}
use Rattle.gr_office.specs.Office.{IsOpenWith, Office, ShowsSheet}
use Rattle.gr_office.proofs.HistoryLemmas.{leaves_its_state}
use Rattle.gr_http.specs.declared.answer.Lost.{Lost}
use Rattle.gr_http.specs.declared.answer.Lost.TheVariants as streams
use Rattle.gr_http.specs.declared.answer.Served.{Served}
use Rattle.gr_http.specs.Answer.{Asks}
use Rattle.gr_http.specs.Demand.{Do}
use Rattle.gr_http.specs.Fates.{DemandMakes, RequestMakes, TellsOf, delivered, undelivered}
use Rattle.gr_http.specs.Response.{Response, fault_response}
use Rattle.gr_http.proofs.AnsweredRequests.{asks_one}
use Rattle.gr_http.proofs.RequestParts.{received_is_determined}
use Rattle.gr_desk.specs.declared.ending.Ending.{Ending}
use Rattle.gr_desk.specs.declared.ending.Ending.TheVariants as ending
use Rattle.gr_desk.specs.declared.failure.Failure.{Failure}
use Rattle.gr_desk.specs.declared.failure.Failure.TheVariants as failures
use Rattle.gr_desk.specs.Host.{Bytes, Content, HasDesk, IsDeskOf, KeepsDesk, Known, NewDesk}
use Rattle.gr_desk.specs.Life.{IsNext}
use Rattle.gr_desk.specs.Lines.{ImportDoes, InitDoes, IsReadOf, OnceDoes, ShowDoes, outcome_of}
use Rattle.gr_desk.specs.Steps.{IsAnswered}
use Rattle.gr_desk.proofs.LifeLemmas.{at_found, opened_left}
use Rattle.gr_desk_tests.specs.Witness.{Accepts, AcceptsOne, AnswersSo, HasInFile, HasVoteInFile, ImportsRoll, IsGranted, LeavesRolls, MayAccept, ShowsResult, ShowsTheVote, call, close, further, proposal, vote}
use Rattle.gr_desk_tests.specs.declared.witness.TheConstants.{CALL, CALLED, CLOSE, CLOSED, FURTHER, PROPOSAL, PROPOSED, VOTE}
use Rattle.gr_desk_tests.proofs.RequestLemmas.{asks_call, asks_close, asks_further, asks_proposal, asks_vote}

not_ok : (done : Result ⊤ Failure) (failure : Failure) → done ≡ Err failure → is_ok done ≡ true → ⊥
not_ok done failure failed ok = let never : false ≡ true = subst (λ d. is_ok d ≡ true) failed ok in cc

-- what is said of what is there, where it is this
pub of_some : {A : Type 0} (P : A → Type 0) (found : Option A) (it : A) → found ≡ Some it → IfSome found P → P it
of_some P found it is said = subst (λ o. IfSome o P) is said

-- what became of an act, by its fate
abbrev Became : Fate → State → ℕ → Act → State → Type 0
Became (Acknowledged reply) s at act t = Accepts s at act t
Became other s at act t = MayAccept s at act t

became_some : (fate : Fate) (s : State) (at : ℕ) (act : Act) (t : State) → Became fate s at act t → MayAccept s at act t
became_some (Acknowledged reply) s at act t took = inr took
became_some (ReplyLost reply) s at act t may = may
became_some (Refused refusal) s at act t may = may
became_some NotDone s at act t may = may
became_some Interrupted s at act t may = may

-- a status is one
two_hundred : (response other : Response) → response ≡ other → response.status ≡ 200 → other.status ≡ 200
two_hundred response other is ok = subst (λ (r : Response). r.status ≡ 200) is ok

module _ {S : Type 0} (g : Ghosts S) where
  -- the host has the file again, and the next line finds this there
  abbrev Back : Ending S → Known → List ℕ → Type 0
  Back left new file =
      (next : Content) × (new.content file ≡ Some next) × ((found : Content) → IsNext g found left next)

  -- contents that hold the database of a desk have that desk
  has_desk : (t : State) (image : Image) (db : Trees) → HoldsDatabase image db → KeepsDesk t db → HasDesk (Bytes image) t
  has_desk t image db holds keeps = elim keeps [
    | inl (valid, leaves) ↦ inl (valid, (db, holds, leaves))
    | inr (old, lifts, valid, leaves) ↦ inr (old, lifts, (valid, (db, holds, leaves)))
  ]

  -- a host has in its file what was left of a connection
  has_left : (t : State) (new : Known) (file : List ℕ) (next : Content) (image : Image) → new.content file ≡ Some next
      → next ≡ Bytes image → HasDesk (Bytes image) t → (content : Content) × (new.content file ≡ Some content) × HasDesk content t
  has_left t new file next image has is desk = (Bytes image, has ∙ ap Some is, desk)

  -- an office that was opened over a file with a desk is open with it
  of_desk : (known : Known) (file : List ℕ) (found : Content) (office : Office S) (last : Held S) (s : State)
      → known.content file ≡ Some found → IsDeskOf g known file office last → HasCleanDisk (state g last) → HasDesk found s
      → IsValid s × IsOpenWith g s office
  of_desk known file found office last s is desk clean (inl held) =
      let open_with = at_found (known.content file) found _ is (desk.open_with clean) s held in
      let it = desk.found clean in
      let same : Some it.0 ≡ Some s = sym it.1 ∙ open_with.desk in
      (subst (λ (o : Option State). MatchOption o ⊤ IsValid) same it.2, open_with)
  of_desk known file found office last s is desk clean (inr (old, lifts, held)) =
      absurd (at_found (known.content file) found _ is (desk.not_desk1 clean) old held)

  -- ==== `init`

  pub made : (known new : Known) (file : List ℕ) (was is : Option (List ℕ)) (done : Result ⊤ Failure) (left : Ending S)
      → InitDoes g known file false was is done left → is_ok done ≡ true → Back left new file → HasInFile new file new_state
  made known new file was is done ending.Nothing (fault, failed, of, same) ok back = absurd (not_ok done (failures.Fault fault) failed ok)
  made known new file was is done (ending.LetGo conn) (fault, failed, before, connected, fails, still, same) ok back =
      absurd (not_ok done (failures.Fault fault) failed ok)
  made known new file was is done (ending.Close conn) it ok (next, has, found) =
      let (image, same, of) = found NewDesk in
      ∥∥₁_map (opened_left g new_state it.office conn image new_valid (it.kept of.clean) it.last of)
      (has_left new_state new file next image has same)

  -- ==== an act

  -- what may be left of an office after an act has the desk that the act made of its own, or left
  act_left : CommandsKeepADeskValid → (s : State) (before after : Office S) (at : ℕ) (act : Act) (fate : Fate) (db : Trees)
      → IsValid s → IsOpenWith g s before → Makes g before (record { command = (at, act); fate = fate }) after
      → HasCleanDisk (state g after.conn) → (state g after.conn).may_leave db
      → (t : State) × Became fate s at act t × KeepsDesk t db
  act_left keep s before after at act (Acknowledged reply) db valid is_open made clean may =
      let (t, took, opened) = made.from_open clean s is_open in (
        t,
        (reply, took),
        inl (keep s ((at, act) ∷ []) (step.Accepted reply ∷ []) t valid (t, took, refl), leaves_its_state g t after db opened may),
      )
  act_left keep s before after at act (ReplyLost reply) db valid is_open made clean may =
      let (t, took, opened) = made.from_open clean s is_open in (
        t,
        inr (reply, took),
        inl (keep s ((at, act) ∷ []) (step.Accepted reply ∷ []) t valid (t, took, refl), leaves_its_state g t after db opened may),
      )
  act_left keep s before after at act (Refused refusal) db valid is_open made clean may =
      let (refused, opened) = made.from_open clean s is_open in
      (s, inl refl, inl (valid, leaves_its_state g s after db opened may))
  act_left keep s before after at act NotDone db valid is_open made clean may =
      (s, inl refl, inl (valid, leaves_its_state g s after db (made.from_open clean s is_open) may))
  act_left keep s before after at act Interrupted db valid is_open made clean may =
      let (reply, t, took, shut, each) = made.from_open clean s is_open in
      elim (each db may) [
        | inl was ↦ (s, inl refl, inl (valid, was))
        | inr is ↦ (t, inr (reply, took), inl (keep s ((at, act) ∷ []) (step.Accepted reply ∷ []) t valid (t, took, refl), is))
      ]

  -- bytes that ask for an act make it, or memory ran out before
  requested : (before after : Office S) (at : ℕ) (coming : Option (List ℕ)) (request : List ℕ) (response : Response)
      (delivery : Fate → Fate) (act : Act)
      → coming ≡ Some request → Asks request (Ok (Do act)) → RequestMakes g before at coming response delivery after
      → DemandMakes g before at (Ok (Do act)) response delivery after ⊎ ((response ≡ fault_response Memory) × (after ≡ before))
  requested before after at coming request response delivery act is_coming asks (inl (asked, asks_it, handles, makes)) =
      let same : asked ≡ Ok (Do act)
      = asks_one received_is_determined request asked (Ok (Do act))
      (subst (λ c. IfSome c (λ bytes. Asks bytes asked)) is_coming asks_it) asks in
      inl (subst (λ a. DemandMakes g before at a response delivery after) same makes)
  requested before after at coming request response delivery act is_coming asks (inr it) = inr it

  -- of an act that is answered by the status 200 it is told that it was accepted
  granted : (s t : State) (before after : Office S) (at : ℕ) (act : Act) (response : Response) (fate : Fate)
      → response.status ≡ 200 → TellsOf before response after fate → Became fate s at act t → Accepts s at act t
  granted s t before after at act response (Acknowledged reply) ok tells took = took
  granted s t before after at act response (ReplyLost reply) ok tells may = absurd tells
  granted s t before after at act response (Refused refusal) ok tells may =
      let never = two_hundred response _ tells.0 ok in absurd (omega arith)
  granted s t before after at act response NotDone ok ((fault, is), same) may =
      let never = two_hundred response _ is ok in absurd (omega arith)
  granted s t before after at act response Interrupted ok ((fault, is, closed), some, none) may =
      let never = two_hundred response _ is ok in absurd (omega arith)

  -- what may be left of an office after a request for an act
  abbrev Leaves : Result Served Failure → State → ℕ → Act → Trees → Type 0
  Leaves outcome s at act db =
      (t : State) × MayAccept s at act t × (IsGranted outcome → Accepts s at act t) × KeepsDesk t db

  module _ (keep : CommandsKeepADeskValid) (s : State) (before after : Office S) (at : ℕ) (act : Act) (db : Trees) (valid : IsValid s)
      (is_open : IsOpenWith g s before)
      (clean : HasCleanDisk (state g after.conn))
      (may : (state g after.conn).may_leave db) where
    unchanged : (outcome : Result Served Failure) → (IsGranted outcome → ⊥) → after ≡ before → Leaves outcome s at act db
    unchanged outcome never same = (
      s,
      inl refl,
      λ ok. absurd (never ok),
      inl (valid, leaves_its_state g s before db is_open (subst (λ (o : Office S). (state g o.conn).may_leave db) same may)),
    )

    answered_whole : (response : Response) (served : Served) → served.status ≡ response.status
        → DemandMakes g before at (Ok (Do act)) response delivered after ⊎ ((response ≡ fault_response Memory) × (after ≡ before))
        → Leaves (Ok served) s at act db
    answered_whole response served status (inl (fate, tells, makes)) =
        let (t, became, keeps) = act_left keep s before after at act fate db valid is_open makes clean may in (
          t,
          became_some fate s at act t became,
          λ ok. granted s t before after at act response fate (sym status ∙ ok) tells became,
          keeps,
        )
    answered_whole response served status (inr (is, same)) =
        unchanged (Ok served) (λ ok. let never = two_hundred response _ is (sym status ∙ ok) in omega arith) same

    cut_off : (response : Response) (failure : Failure)
        → DemandMakes g before at (Ok (Do act)) response undelivered after ⊎ ((response ≡ fault_response Memory) × (after ≡ before))
        → Leaves (Err failure) s at act db
    cut_off response failure (inl (fate, tells, makes)) =
        let (t, became, keeps) = act_left keep s before after at act (undelivered fate) db valid is_open makes clean may in
        (t, became_some (undelivered fate) s at act t became, λ ok. absurd ok, keeps)
    cut_off response failure (inr (is, same)) = unchanged (Err failure) (λ ok. ok) same

    answered : (coming was is : Option (List ℕ)) (request : List ℕ) (served : Result Served Lost) → coming ≡ Some request
        → Asks request (Ok (Do act)) → IsAnswered g before at coming was is served after → Leaves (outcome_of served) s at act db
    answered coming was is request (Ok served) is_coming asks it =
        let (response, status, appends, exchange) = it.whole in
        answered_whole response served status (requested before after at coming request response delivered act is_coming asks exchange.1)
    answered coming was is request (Err streams.Write) is_coming asks it =
        let (response, appends, exchange) = it.cut_off refl in
        cut_off response failures.Lost (requested before after at coming request response undelivered act is_coming asks exchange.1)
    answered coming was is request (Err streams.Read) is_coming asks it = unchanged (Err failures.Lost) (λ ok. ok) (it.unread refl).0

  -- ==== `once`

  one : CommandsKeepADeskValid → (known new : Known) (file request : List ℕ) (at : ℕ) (coming was is : Option (List ℕ))
      (outcome : Result Served Failure) (left : Ending S)
      → coming ≡ Some request → OnceDoes g known file (λ t. t ≡ at) coming was is outcome left → Back left new file
      → (s : State) (act : Act) (content : Content) → known.content file ≡ Some content → HasDesk content s → Asks request (Ok (Do act))
      → ∥ ((t : State) × MayAccept s at act t × (IsGranted outcome → Accepts s at act t) × HasInFile new file t) ∥₁
  one keep known new file request at coming was is outcome ending.Nothing is_coming (failure, failed, none, same) (next, has, found) s act
      content there desk asks =
      ∣ (s, inl refl, λ ok. absurd (subst IsGranted failed ok), ∣ (next, has, found content s desk) ∣₁) ∣₁
  one keep known new file request at coming was is outcome (ending.LetGo conn) is_coming
      (failure, failed, (fault, of, was_there, before, connected, fails, still), same) (next, has, found) s act content there desk asks =
      let (image, is_next, left_of) = found content in
      let keeps = at_found (known.content file) content _ there (still left_of.clean) s desk in
      ∥∥₁_map left_of.left (λ left. (
        s,
        inl refl,
        λ ok. absurd (subst IsGranted failed ok),
        ∣ has_left s new file next image has is_next (has_desk s image left.0 left.2 (keeps left.0 left.1)) ∣₁,
      ))
  one keep known new file request at coming was is outcome (ending.Close conn) is_coming it (next, has, found) s act content there desk asks =
      let (image, is_next, left_of) = found content in
      let its = of_desk known file content it.before conn s there it.desk left_of.clean desk in
      let clean : HasCleanDisk (state g it.after.conn) = subst (λ (c : Held S). HasCleanDisk (state g c)) it.last left_of.clean in
      ∥∥₁_map left_of.left (λ left.
      let may : (state g it.after.conn).may_leave left.0 = subst (λ (c : Held S). (state g c).may_leave left.0) it.last left.1 in
      let became : Leaves (outcome_of it.served) s at act left.0
      = subst (λ m. Leaves (outcome_of it.served) s m act left.0) it.moment
      (answered keep s it.before it.after it.at act left.0 its.0 its.1 clean may coming was is request it.served is_coming asks it.answered) in (
        became.0,
        became.1,
        λ ok. became.2 (subst IsGranted it.tells ok),
        ∣ has_left became.0 new file next image has is_next (has_desk became.0 image left.0 left.2 became.3) ∣₁,
      ))

  pub asked : CommandsKeepADeskValid → (known new : Known) (file request : List ℕ) (at : ℕ) (coming was is : Option (List ℕ))
      (outcome : Result Served Failure) (left : Ending S)
      → coming ≡ Some request → OnceDoes g known file (λ t. t ≡ at) coming was is outcome left → Back left new file
      → AnswersSo outcome known at request file new
  asked keep known new file request at coming was is outcome left is_coming does back s act has asks =
      ∥∥₁_elim has ∥∥₁_prop (λ it.
      one keep known new file request at coming was is outcome left is_coming does back s act it.0 it.1 it.2 asks)

  -- ==== `import`

  pub imported : CommandsKeepADeskValid → (known new : Known) (file roll : List ℕ) (at : ℕ) (was is : Option (List ℕ))
      (done : Result ⊤ Failure) (left : Ending S)
      → ImportDoes g known file roll (λ t. t ≡ at) was is done left → is_ok done ≡ true → Back left new file
      → (s : State) → HasInFile known file s
      → ∥ ((rows : List RollRow) × IsReadOf (known.roll roll) (Ok rows)
      × (t : State) × Accepts s at (ImportRoll rows) t × HasInFile new file t) ∥₁
  imported keep known new file roll at was is done ending.Nothing (inl (failure, failed, none, same)) ok back s has =
      absurd (not_ok done failure failed ok)
  imported keep known new file roll at was is done ending.Nothing (inr (failure, failed, unread, nothing, same)) ok back s has =
      absurd (not_ok done failure failed ok)
  imported keep known new file roll at was is done (ending.LetGo conn) (inl (failure, failed, unopened, same)) ok back s has =
      absurd (not_ok done failure failed ok)
  imported keep known new file roll at was is done (ending.LetGo conn) (inr (failure, failed, unread, nothing, same)) ok back s has =
      absurd (not_ok done failure failed ok)
  imported keep known new file roll at was is (Err failure) (ending.Close conn) it ok back s has = absurd (not_ok (Err failure) failure refl ok)
  imported keep known new file roll at was is (Ok done) (ending.Close conn) it ok (next, there, found) s has =
      ∥∥₁_elim has ∥∥₁_prop (λ (content, was_there, desk).
      let (image, is_next, left_of) = found content in
      let its = of_desk known file content it.before conn s was_there it.desk left_of.clean desk in
      let clean : HasCleanDisk (state g it.after.conn) = subst (λ (c : Held S). HasCleanDisk (state g c)) it.last left_of.clean in
      let (reply, appends, acted) = it.imports in
      ∥∥₁_map left_of.left (λ left.
      let may : (state g it.after.conn).may_leave left.0 = subst (λ (c : Held S). (state g c).may_leave left.0) it.last left.1 in
      let (t, took, keeps)
      = act_left keep s it.before it.after it.at (ImportRoll it.rows) (Acknowledged reply) left.0 its.0 its.1 acted.makes clean may in (
        it.rows,
        it.read,
        t,
        subst (λ m. Accepts s m (ImportRoll it.rows) t) it.moment took,
        ∣ has_left t new file next image there is_next (has_desk t image left.0 left.2 keeps) ∣₁,
      )))

  -- ==== `result`

  pub shown : (known new : Known) (file sheet : List ℕ) (was is : Option (List ℕ)) (done : Result ⊤ Failure) (left : Ending S)
      → was ≡ Some [] → is ≡ Some sheet → ShowDoes g known file kinds.Result 1 was is done left → is_ok done ≡ true
      → Back left new file → ShowsResult known file sheet
  shown known new file sheet was is done ending.Nothing empty written (failure, failed, none, same) ok back s has =
      absurd (not_ok done failure failed ok)
  shown known new file sheet was is done (ending.Close conn) empty written (failure, failed, unopened, same) ok back s has =
      absurd (not_ok done failure failed ok)
  shown known new file sheet was is done (ending.LetGo conn) empty written (inl (failure, failed, unopened, same)) ok back s has =
      absurd (not_ok done failure failed ok)
  shown known new file sheet was is (Err failure) (ending.LetGo conn) empty written (inr it) ok back s has =
      absurd (not_ok (Err failure) failure refl ok)
  shown known new file sheet was is (Ok done) (ending.LetGo conn) empty written (inr it) ok (next, there, found) s has =
      ∥∥₁_map has (λ (content, was_there, desk).
      let (image, is_next, left_of) = found content in
      let its = of_desk known file content it.office conn s was_there it.desk left_of.clean desk in
      let (text, shows, appends) = it.prints in
      let same : sheet ≡ string_bytes text
      = subst (λ o. Appends o (Some sheet) (string_bytes text)) empty (subst (λ n. Appends was n (string_bytes text)) written appends) in
      let of_text : IsSheet s kinds.Result 1 (string_bytes text)
      = subst (λ d. ShowsSheet d kinds.Result 1 (Ok text)) its.1.desk shows in
      subst (λ bytes. IsSheet s kinds.Result 1 bytes) (sym same) of_text)

-- of a request for an act that was answered by the status 200 the act was accepted
pub granted_one : (result : Option (Result Served Failure)) (outcome : Result Served Failure) (served : Served)
    (old new : Known) (at : ℕ) (request file : List ℕ)
    → result ≡ Some outcome → outcome ≡ Ok served → served.status ≡ 200 → IfSome result (λ it. AnswersSo it old at request file new)
    → AcceptsOne old at request file new
granted_one result outcome served old new at request file some is ok answers s act has asks =
    let so : AnswersSo (Ok served) old at request file new
    = subst (λ it. AnswersSo it old at request file new) is (subst (λ r. IfSome r (λ it. AnswersSo it old at request file new)) some answers) in
    ∥∥₁_map (so s act has asks) (λ (t, may, if_granted, has_then). (t, if_granted ok, has_then))

-- ==== the lines of a vote

pub held : (first made imported proposed called voted closed : Known) (file roll : List ℕ)
    → LeavesRolls first made → HasInFile made file new_state → ImportsRoll made roll file imported
    → AcceptsOne imported PROPOSED PROPOSAL.now file proposed → AcceptsOne proposed CALLED CALL.now file called
    → AcceptsOne called CALLED VOTE.now file voted → AcceptsOne voted CLOSED CLOSE.now file closed
    → HasVoteInFile (first.roll roll) closed file
held first made imported proposed called voted closed file roll rolls has imports proposes calls votes closes =
    ∥∥₁_elim (imports new_state has) ∥∥₁_prop (λ (rows, read, s1, took1, has1).
    ∥∥₁_elim (proposes s1 proposal has1 asks_proposal) ∥∥₁_prop (λ (s2, took2, has2).
    ∥∥₁_elim (calls s2 call has2 asks_call) ∥∥₁_prop (λ (s3, took3, has3).
    ∥∥₁_elim (votes s3 vote has3 asks_vote) ∥∥₁_prop (λ (s4, took4, has4).
    ∥∥₁_map (closes s4 close has4 asks_close) (λ (s5, took5, has5). (
      rows,
      subst (λ known. IsReadOf known (Ok rows)) (rolls roll) read,
      s5,
      (took1.0, s1, took1.1, (took2.0, s2, took2.1, (took3.0, s3, took3.1, (took4.0, s4, took4.1, (took5.0, s5, took5.1, refl))))),
      has5,
    ))))))

pub led : (roll : Option (List ℕ)) (closed after : Known) (file sheet : List ℕ) (outcome : Result Served Failure)
    → HasVoteInFile roll closed file → AnswersSo outcome closed CLOSED FURTHER.now file after → ShowsResult after file sheet
    → ShowsTheVote roll outcome sheet
led roll closed after file sheet outcome vote_there goes_on shows =
    ∥∥₁_elim vote_there ∥∥₁_prop (λ (rows, read, s, accepted, has).
    ∥∥₁_elim (goes_on s further has asks_further) ∥∥₁_prop (λ (t, may, if_granted, has_then).
    ∥∥₁_map (shows t has_then) (λ is. (rows, read, s, accepted, t, may, if_granted, is))))
