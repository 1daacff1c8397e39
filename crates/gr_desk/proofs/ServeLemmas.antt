-- Connections that are served one after the other, and as calls of the crash prefix.
use Rattle.std.proofs.Common.{◌≡◌, ℕ, ◌+◌, inl, inr, List, [], ◌∷◌, ◌++◌, length, length-append, Option, None, Some, Result, Ok, Err, refl, sym, subst, arith}
use Rattle.std.specs.Prelude.{IfOk, IsSome}
use Rattle.sqlite_trees.specs.declared.store.Store.{Ghosts}
use Rattle.gr_office.specs.Office.{Office}
use Rattle.gr_office.specs.History.{Fate, Attempt, AreMade, keeper}
use Rattle.gr_office.proofs.CrashLemmas.{go_on}
use Rattle.gr_http.specs.declared.answer.Served.{Served}
use Rattle.gr_core.specs.Machine.Import.{RollRow}
use Rattle.gr_http.specs.declared.answer.Lost.{Lost as LostStream}
use Rattle.gr_http.specs.declared.answer.Lost.TheVariants.{Read, Write}
use Rattle.gr_http.specs.declared.serve.NotServed.{NotServed}
use Rattle.gr_http.specs.declared.serve.NotServed.TheVariants.{Accept, Lost}
use Rattle.gr_http.specs.declared.problem.Problem.{Problem}
use Rattle.gr_http.specs.Demand.{Demand, Do, Show}
use Rattle.gr_http.specs.Response.{Response, response_bytes}
use Rattle.gr_http.specs.Fates.{DemandMakes, RequestMakes, delivered, undelivered}
use Rattle.gr_http.specs.Exchange.{IsExchange}
use Rattle.gr_http.proofs.FateLemmas.{reply_lost}
use Rattle.gr_http.specs.Door.{Brings, EndsTold, EndsCutOff, EndsUnread}
use Rattle.gr_desk.specs.declared.failure.Failure.{Failure}
use Rattle.gr_desk.specs.declared.failure.Failure.TheVariants as failures
use Rattle.gr_desk.specs.Steps.{ImportsRows, IsAnswered}
use Rattle.gr_desk.specs.Connections.{Between, IsConnection, AreConnections, AreOfAll, AreOfConnection, AreOfResponse, ConnectionsAreCalls}
use Rattle.gr_desk.specs.Lines.{AreOfImport, AreOfServed}

module _ {S : Type 0} (g : Ghosts S) where
  -- ==== calls

  -- some attempts lead from the one office to the other, and are those of which this tells
  IsCall : Office S → (List Attempt → Type 0) → Office S → Type 0
  IsCall before AreOf after = (attempts : List Attempt) × AreMade g before attempts after × AreOf attempts

  demand_is_call : (before after : Office S) (at : ℕ) (asked : Result Demand Problem) (response : Response) (delivery : Fate → Fate)
      → DemandMakes g before at asked response delivery after
      → IsCall before (AreOfResponse before after at response delivery) after
  unfolding IsCall
  demand_is_call before after at (Ok (Do act)) response delivery (fate, tells, makes) =
      (_ ∷ [], (after, makes, refl), inr (act, fate, tells, refl))
  demand_is_call before after at (Ok (Show kind number)) response delivery same = ([], same, inl (refl, same))
  demand_is_call before after at (Err problem) response delivery same = ([], same, inl (refl, same))

  request_is_call : (before after : Office S) (at : ℕ) (coming : Option (List ℕ)) (response : Response) (delivery : Fate → Fate)
      → RequestMakes g before at coming response delivery after
      → IsCall before (AreOfResponse before after at response delivery) after
  unfolding IsCall
  request_is_call before after at coming response delivery (inl (asked, asks, handles, makes)) =
      demand_is_call before after at asked response delivery makes
  request_is_call before after at coming response delivery (inr (memory, same)) = ([], same, inl (refl, same))

  -- a request that was answered so is a call
  pub answered_calls : (before after : Office S) (at : ℕ) (coming old new : Option (List ℕ)) (served : Result Served LostStream)
      → IsAnswered g before at coming old new served after
      → (attempts : List Attempt) × AreMade g before attempts after × AreOfServed before after at served attempts
  unfolding IsCall
  answered_calls before after at coming old new (Ok served) it =
      let (response, status, bytes, exchange) = it.whole in
      let (attempts, made, are) = request_is_call before after at coming response delivered exchange.1 in
      (attempts, made, (response, status, are))
  answered_calls before after at coming old new (Err Read) it = ([], (it.unread refl).0, refl)
  answered_calls before after at coming old new (Err Write) it =
      let (response, bytes, exchange) = it.cut_off refl in
      let (attempts, made, are) = request_is_call before after at coming response undelivered exchange.1 in
      (attempts, made, (response, are))

  -- so is an import
  pub import_calls : (T : Type 0) (before after : Office S) (at : ℕ) (rows : List RollRow) (old new : Option (List ℕ))
      (done : Result T Failure)
      → ImportsRows g before at rows old new done after
      → (attempts : List Attempt) × AreMade g before attempts after × AreOfImport before at rows done after attempts
  import_calls T before after at rows old new (Ok done) (reply, whole, acted) =
      (_ ∷ [], (after, acted.makes, refl), (reply, refl))
  import_calls T before after at rows old new (Err failures.Lost) (reply, begun, acted) =
      (_ ∷ [], (after, reply_lost g before after _ reply acted.makes, refl), (reply, refl))
  import_calls T before after at rows old new (Err (failures.Refused refusal)) (same, acted) =
      (_ ∷ [], (after, acted.makes, refl), refl)
  import_calls T before after at rows old new (Err (failures.Fault fault)) (same, acted) =
      (_ ∷ [], (after, acted.makes, refl), refl)
  import_calls T before after at rows old new (Err failures.TooLarge) never = absurd never
  import_calls T before after at rows old new (Err (failures.BadRoll number)) never = absurd never
  import_calls T before after at rows old new (Err failures.NoFile) never = absurd never
  import_calls T before after at rows old new (Err failures.CannotRead) never = absurd never
  import_calls T before after at rows old new (Err failures.CannotListen) never = absurd never
  import_calls T before after at rows old new (Err failures.CannotAccept) never = absurd never

  module _ (IsMoment : ℕ → Type 0) where
    connection_is_call : (before after : Between S) → IsConnection g IsMoment before after
        → IsCall before.office (AreOfConnection IsMoment before after) after.office
    unfolding IsCall
    connection_is_call before after (bytes, brings, inl (at, moment, response, inl (told, exchange))) =
        let (attempts, made, are) = request_is_call before.office after.office at bytes response _ exchange.1 in
        (attempts, made, inl (at, moment, response, inl (told, are)))
    connection_is_call before after (bytes, brings, inl (at, moment, response, inr (told, exchange))) =
        let (attempts, made, are) = request_is_call before.office after.office at bytes response _ exchange.1 in
        (attempts, made, inl (at, moment, response, inr (told, are)))
    connection_is_call before after (bytes, brings, inr (unread, alone)) = ([], alone, inr (unread, refl))

    pub calls_of : (first last : Between S) (betweens : List (Between S)) → AreConnections g IsMoment first betweens last
        → (attempts : List Attempt) × AreMade g first.office attempts last.office × AreOfAll IsMoment first betweens attempts
    unfolding IsCall
    calls_of first last [] same = ([], subst (λ (s : Between S). s.office ≡ first.office) (sym same) refl, refl)
    calls_of first last (next ∷ behind) (connection, rest) =
        let call = connection_is_call first next connection in
        let calls = calls_of next last behind rest in (
          call.0 ++ calls.0,
          go_on (keeper g) first.office next.office last.office call.0 calls.0 call.1 calls.1,
          (call.0, calls.0, refl, call.2, calls.2),
        )

  -- ==== one connection more

  module _ (IsMoment : ℕ → Type 0) where
    then : (first mid last : Between S) (betweens : List (Between S)) → AreConnections g IsMoment first betweens mid
        → IsConnection g IsMoment mid last → AreConnections g IsMoment first (betweens ++ last ∷ []) last
    then first mid last [] same connection = (subst (λ s. IsConnection g IsMoment s last) same connection, refl)
    then first mid last (next ∷ behind) (connection, rest) more = (connection, then next mid last behind rest more)

    -- so many connections lead from the one to the other
    abbrev pub Connected : ℕ → Between S → Between S → Type 0
    Connected count first last =
        (betweens : List (Between S)) × AreConnections g IsMoment first betweens last × (length betweens ≡ count)

    pub none_yet : (first : Between S) → Connected 0 first first
    none_yet first = ([], refl, refl)

    pub one_more : (count : ℕ) (first mid last : Between S) → Connected count first mid → IsConnection g IsMoment mid last
        → Connected (count + 1) first last
    one_more count first mid last (betweens, are, many) connection =
        let longer = length-append betweens (last ∷ []) in
        (betweens ++ last ∷ [], then first mid last betweens are connection, omega (arith, many, longer))

    -- where none was accepted, it stands as it stood
    pub none_more : (count : ℕ) (first mid last : Between S) → Connected count first mid
        → (last.office ≡ mid.office) × (last.awaited ≡ mid.awaited) × (last.ended ≡ mid.ended) → Connected count first last
    none_more count first mid last so_far (office, awaited, ended) =
        subst (Connected count first) (λ i. record { office = sym office i; awaited = sym awaited i; ended = sym ended i }) so_far

    -- a call of the engine that accepted one, as it says, is a connection
    pub is_connection : (mid last : Between S) (result : Result Served NotServed) → ¬ (result ≡ Err Accept)
        → IfOk result (λ served. (bytes : Option (List ℕ)) × (at : ℕ) × IsMoment at × (response : Response) × (served.status ≡ response.status)
        × Brings mid.awaited last.awaited bytes × EndsTold mid.ended last.ended (response_bytes response)
        × IsExchange g mid.office at bytes response delivered last.office)
        → (result ≡ Err (Lost Write) → (bytes : Option (List ℕ)) × (at : ℕ) × IsMoment at × (response : Response)
        × Brings mid.awaited last.awaited bytes × EndsCutOff mid.ended last.ended (response_bytes response)
        × IsExchange g mid.office at bytes response undelivered last.office)
        → (result ≡ Err (Lost Read) → (bytes : Option (List ℕ)) × Brings mid.awaited last.awaited bytes
        × EndsUnread mid.ended last.ended × (last.office ≡ mid.office))
        → IsConnection g IsMoment mid last
    is_connection mid last (Ok served) accepted (bytes, at, moment, response, status, brings, told, exchange) cut_off unread =
        (bytes, brings, inl (at, moment, response, inl (told, exchange)))
    is_connection mid last (Err Accept) accepted said cut_off unread = absurd (accepted refl)
    is_connection mid last (Err (Lost Read)) accepted said cut_off unread =
        let (bytes, brings, ends, alone) = unread refl in (bytes, brings, inr (ends, alone))
    is_connection mid last (Err (Lost Write)) accepted said cut_off unread =
        let (bytes, at, moment, response, brings, ends, exchange) = cut_off refl in
        (bytes, brings, inl (at, moment, response, inr (ends, exchange)))

-- an option that is not none has a value
pub is_some : {X : Type 0} (o : Option X) → ¬ (o ≡ None) → IsSome o
is_some None not = absurd (not refl)
is_some (Some x) not = refl

pub connections_are_calls : {S : Type 0} (g : Ghosts S) (IsMoment : ℕ → Type 0) → ConnectionsAreCalls g IsMoment
connections_are_calls g IsMoment first last betweens are = calls_of g IsMoment first last betweens are
