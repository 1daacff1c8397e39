use Rattle.std.proofs.Common.{List, Result, Ok, Err}
use Rattle.std.specs.Prelude.{IfOk, IfErr, MatchResult}
use Rattle.gr_core.specs.Desks.State.{State}
use Rattle.gr_store.specs.Faults.{IsOfStore}
use Rattle.sqlite.specs.Held.{Held, state}
use Rattle.sqlite.specs.State.{HasCleanDisk}
use Rattle.sqlite_trees.specs.declared.store.Store.{Ghosts}
use Rattle.gr_office.specs.Crash.{IsAfterPrefix}
use Rattle.gr_office.specs.History.{Attempt}
use Rattle.gr_office.specs.Office.{Office, Keeps, IsOpenWith, StillKeeps}
use Rattle.gr_office.proofs.HistoryLemmas.{left_prefix, valid_after}
use Rattle.gr_office.proofs.laws.starts_are_reopened.Goals as goal

-- the state that is found is that of the prefix
found : {S E : Type 0} (g : Ghosts S) (left_of : E → Held S) (Clean : Type 0) (s t : State) (attempts : List Attempt) (result : Result (Office S) E)
    → IsAfterPrefix s attempts t → (Clean → IfOk result (λ office. HasCleanDisk (state g office.conn) → IsOpenWith g t office))
    → MatchResult result (λ office. HasCleanDisk (state g office.conn) → Clean) (λ e. HasCleanDisk (state g (left_of e)) → Clean)
    → IfOk result (λ office. HasCleanDisk (state g office.conn) → (t : State) × IsAfterPrefix s attempts t × IsOpenWith g t office)
found g left_of Clean s t attempts (Ok office) prefix opened was = λ clean. (t, prefix, opened (was clean) clean)
found g left_of Clean s t attempts (Err e) prefix opened was = tt

kept : {E S : Type 0} (g : Ghosts S) (left_of : E → Held S) (P : E → Type 0) (Clean : Type 0) (s t : State) (attempts : List Attempt)
    (result : Result (Office S) E) → IsAfterPrefix s attempts t
    → (Clean → IfErr result (λ e. HasCleanDisk (state g (left_of e)) → P e × StillKeeps g t (left_of e)))
    → MatchResult result (λ office. HasCleanDisk (state g office.conn) → Clean) (λ e. HasCleanDisk (state g (left_of e)) → Clean)
    → IfErr result (λ e. HasCleanDisk (state g (left_of e)) → P e × ((t : State) × IsAfterPrefix s attempts t × StillKeeps g t (left_of e)))
kept g left_of P Clean s t attempts (Ok office) prefix failed was = tt
kept g left_of P Clean s t attempts (Err e) prefix failed was = λ clean. let it = failed (was clean) clean in (it.0, (t, prefix, it.1))

pub returns-clause-opened : goal.returns-clause-opened
returns-clause-opened g c opens s start attempts left =
    let prefix = left_prefix g.S.Store s attempts c.args.conn left in
    let valid = valid_after c.lifted_desks_are_valid.ensures c.commands_keep_a_desk_valid.ensures s prefix.0 attempts start prefix.1 in
    found g.S.Store (λ e. e.conn) (HasCleanDisk (state g.S.Store c.args.conn)) s prefix.0 attempts c.a_kept_desk_opens.result prefix.1
    (λ clean.
    let held = c.left_desks_are_held.ensures clean opens prefix.0 prefix.2 in
    let keeps : Keeps g.S.Store prefix.0 c.args.conn
    = record { settled = held.0; tables = held.1; holds = held.2 } in
    c.a_kept_desk_opens.ensures.opened prefix.0 valid keeps) c.a_kept_desk_opens.ensures.clean

pub returns-clause-failed : goal.returns-clause-failed
returns-clause-failed g c opens s start attempts left =
    let prefix = left_prefix g.S.Store s attempts c.args.conn left in
    let valid = valid_after c.lifted_desks_are_valid.ensures c.commands_keep_a_desk_valid.ensures s prefix.0 attempts start prefix.1 in
    kept g.S.Store (λ e. e.conn) (λ e. IsOfStore e.fault) (HasCleanDisk (state g.S.Store c.args.conn)) s prefix.0 attempts
    c.a_kept_desk_opens.result prefix.1 (λ clean.
    let held = c.left_desks_are_held.ensures clean opens prefix.0 prefix.2 in
    let keeps : Keeps g.S.Store prefix.0 c.args.conn
    = record { settled = held.0; tables = held.1; holds = held.2 } in
    c.a_kept_desk_opens.ensures.failed prefix.0 valid keeps) c.a_kept_desk_opens.ensures.clean
