use Rattle.std.proofs.Common.{◌≡◌, length, [], refl, sym, ap, subst, ◌∙◌, arith, rules}
use Rattle.gr_office.proofs.BesideLemmas.{spares_same, spares_then}
use Rattle.gr_office.proofs.RunLemmas.{ran_nothing, ran_one_more, ran_whole, ran_until, ran_without_room, memory_fate, closed_fate}
use Rattle.gr_office.proofs.RunLemmas.{list_makes_nothing, list_makes_one_more, list_makes_until}
use Rattle.gr_office.proofs.RunLemmas.{ran_is_open, remembers_answer, remembers_same, remembers_stop}
use Rattle.gr_core.specs.Machine.Run.{After}
use Rattle.gr_office.specs.Office.{Acts, Runs, answer_of, command_of, fault_of_act, remembered}
use Rattle.sqlite.specs.Held.{state}
use Rattle.std.proofs.Common.{suc, map, Err, ◌∷◌, ◌++◌, ◌+◌, ◌≤◌, Some, None}
use Rattle.std.specs.Prelude.{take, drop, IsSome, OnOk, OnErr}
use Rattle.gr_core.specs.Machine.Effect.{rows_by}
use Rattle.gr_store.specs.Commits.{PutsAll}
use Rattle.gr_core.specs.Machine.Act.{act_of}
use Rattle.gr_office.specs.declared.fault.ActFault.TheVariants.{Fault}
use Rattle.gr_office.specs.Crash.{NotDone}
use Rattle.gr_office.specs.History.{AcceptedArePut, AreMade, Makes, act_attempt, list_attempts, fate_of}
use Rattle.gr_office.proofs.PutLemmas.{puts_nothing, puts_one_more}
use Rattle.gr_office.proofs.RunLemmas.{split_at, take_next, drop_next, so_many, as_act, RanTo, ran_open, never_empty}
use Rattle.std.proofs.lemmas.List.{length-map, length-append, take_all}
use Rattle.gr_office.proofs.office.Office.run.Goals.{in-Ok-act, in-Err-Refused}
use Rattle.gr_office.proofs.office.Office.run.Goals as goal

pub returns-then-is_closed-clause-makes : goal.returns-then-is_closed-clause-makes
returns-then-is_closed-clause-makes g c =
    list_makes_nothing g.S.Store c.args.self.now _ _ _ c.before_all.ensures.0 (closed_fate _ _ c.before_all.ensures.1)

pub returns-in_default-clause-runs : goal.returns-in_default-clause-runs
returns-in_default-clause-runs g c =
    ran_without_room c.args.self.now.desk _ c.before_all-in_default.result (search rules) c.before_all-in_default.ensures.0
    c.before_all-in_default.ensures.1

pub returns-in_default-clause-makes : goal.returns-in_default-clause-makes
returns-in_default-clause-makes g c =
    list_makes_nothing g.S.Store c.args.self.now _ _ _ c.before_all-in_default.ensures.0
    (memory_fate c.args.self.now.desk _ (search rules) c.before_all-in_default.ensures.1)

pub loop-at-init : goal.loop-at-init
loop-at-init g c = record {
  answered = ap length c.in-Ok.ensures.items;
  len = c.in-Ok.ensures.len;
  room = search rules;
  ran = ran_nothing c.args.self.now.desk c.in-Ok.answers.items c.in-Ok.ensures.items;
  first = λ none. refl;
  makes = refl;
  spares = spares_same g.S.Store c.args.self.now;
  put = λ clean s. puts_nothing g.S.Store s c.args.self.now c.in-Ok.answers.items;
  remembers = refl;
}

-- where a fault stops the list
pub returns-in-Err-Fault-clause-runs : goal.returns-in-Err-Fault-clause-runs
returns-in-Err-Fault-clause-runs g c =
    let at = c.loop-at in
    let commands = map command_of c.args.commands.now in
    let item = c.loop-at-item.result in
    let before = take at.at-index commands in
    let behind = drop (suc at.at-index) commands in
    let same = so_many command_of c.args.commands.now at.at-index at.answers.items (omega arith) at.invariant.answered in
    let failed : c.act.result ≡ Err (Fault c.in-Err-Fault.fault) = search rules in
    let acts = subst (λ answer. Acts at.self.desk item.0 (act_of item.1) answer c.act.new.self.desk) failed c.act.ensures.acts in
    subst (λ l. Runs c.args.self.now.desk l (Err (record { answers = at.answers; fault = c.in-Err-Fault.fault })) c.act.new.self.desk)
    (sym (split_at command_of c.args.commands.now at.at-index item c.loop-at-test.true c.loop-at-item.is))
    (ran_until c.args.self.now.desk at.self.desk c.act.new.self.desk before (command_of item) behind
    (record { answers = at.answers; fault = c.in-Err-Fault.fault }) (search rules) same at.invariant.ran acts)

pub returns-in-Err-Fault-clause-makes : goal.returns-in-Err-Fault-clause-makes
returns-in-Err-Fault-clause-makes g c =
    let at = c.loop-at in
    let commands = map command_of c.args.commands.now in
    let item = c.loop-at-item.result in
    let before = take at.at-index commands in
    let behind = drop (suc at.at-index) commands in
    let same = so_many command_of c.args.commands.now at.at-index at.answers.items (omega arith) at.invariant.answered in
    let failed : c.act.result ≡ Err (Fault c.in-Err-Fault.fault) = search rules in
    let makes = subst (λ answer. Makes g.S.Store at.self (act_attempt item.0 (act_of item.1) answer c.act.new.self.desk) c.act.new.self)
    failed c.act.ensures.makes in
    subst (λ l. AreMade g.S.Store c.args.self.now (list_attempts l at.answers.items (fate_of (Err (Fault c.in-Err-Fault.fault)) c.act.new.self.desk))
    c.act.new.self) (sym (split_at command_of c.args.commands.now at.at-index item c.loop-at-test.true c.loop-at-item.is))
    (list_makes_until g.S.Store c.args.self.now at.self c.act.new.self before at.answers.items (command_of item) behind
    c.in-Err-Fault.fault same at.invariant.makes makes)

pub returns-in-Err-Fault-clause-caused : goal.returns-in-Err-Fault-clause-caused
returns-in-Err-Fault-clause-caused g c clean s is store =
    let at = c.loop-at in
    let commands = map command_of c.args.commands.now in
    let item = c.loop-at-item.result in
    let before = take at.at-index commands in
    let faulted : c.act.result ≡ Err (Fault c.in-Err-Fault.fault) = search rules in
    let was = c.act.ensures.makes.clean clean in
    let open_with = ran_open g.S.Store s c.args.self.now at.self before at.answers.items is at.invariant.ran at.invariant.makes was in
    let count = sym at.invariant.answered in
    record {
      reached = open_with.0;
      ran = subst (λ n. After s (take n commands) (map answer_of at.answers.items) open_with.0) count open_with.1;
      command = command_of item;
      behind = drop (suc at.at-index) commands;
      next = subst (λ n. drop n commands ≡ command_of item ∷ drop (suc at.at-index) commands) count
          (drop_next command_of c.args.commands.now at.at-index item c.loop-at-test.true c.loop-at-item.is);
      before = at.self;
      made = subst (λ n. AreMade g.S.Store c.args.self.now (list_attempts (take n commands) at.answers.items NotDone) at.self) count at.invariant.makes;
      spared = at.invariant.spares;
      put = subst (λ n. AcceptedArePut g.S.Store s c.args.self.now (take n commands) at.answers.items at.self) count (at.invariant.put was s);
      was_open = open_with.2;
      failed = subst (λ answer. Makes g.S.Store at.self (act_attempt item.0 (act_of item.1) answer c.act.new.self.desk) c.act.new.self)
          (faulted ∙ ap (λ fault. Err (Fault fault)) store) c.act.ensures.makes;
      cause = c.act.ensures.caused clean open_with.0 open_with.2 (faulted ∙ ap (λ fault. Err (Fault fault)) store);
    }

-- what is remembered
pub returns-then-is_closed-clause-remembers : goal.returns-then-is_closed-clause-remembers
returns-then-is_closed-clause-remembers g c = remembers_same (Some c.before_all.result.fault) c.args.self.now.desk c.args.self.now.closed_by

pub returns-in_default-clause-remembers : goal.returns-in_default-clause-remembers
returns-in_default-clause-remembers g c =
    remembers_same (Some c.before_all-in_default.result.fault) c.args.self.now.desk c.args.self.now.closed_by

pub returns-in-Err-Fault-clause-remembers : goal.returns-in-Err-Fault-clause-remembers
returns-in-Err-Fault-clause-remembers g c =
    let at = c.loop-at in
    let fault = c.in-Err-Fault.fault in
    let before = take at.at-index (map command_of c.args.commands.now) in
    let failed : c.act.result ≡ Err (Fault fault) = search rules in
    let some : ¬ (c.args.self.now.desk ≡ None) = search rules in
    let after = c.act.new.self.desk in
    c.act.ensures.remembers ∙ ap (λ result. remembered (fault_of_act result) at.self.desk after at.self.closed_by) failed
    ∙ remembers_stop fault c.args.self.now.desk at.self.desk after at.self.closed_by some
    (ran_is_open c.args.self.now.desk at.self.desk before at.answers.items some at.invariant.ran)
    ∙ ap (remembered (Some fault) c.args.self.now.desk after) at.invariant.remembers

pub returns-then-is_closed-clause-spares : goal.returns-then-is_closed-clause-spares
returns-then-is_closed-clause-spares g c = spares_same g.S.Store c.args.self.now

pub returns-in_default-clause-spares : goal.returns-in_default-clause-spares
returns-in_default-clause-spares g c = spares_same g.S.Store c.args.self.now

pub returns-in-Err-Fault-clause-spares : goal.returns-in-Err-Fault-clause-spares
returns-in-Err-Fault-clause-spares g c =
    let at = c.loop-at in
    let before = take at.at-index (map command_of c.args.commands.now) in
    spares_then g.S.Store c.args.self.now at.self c.act.new.self c.act.ensures.makes.clean
    (λ was s is.
    let open_with = ran_open g.S.Store s c.args.self.now at.self before at.answers.items is at.invariant.ran at.invariant.makes was in
    (open_with.0, open_with.2)) at.invariant.spares c.act.ensures.spares

-- where all are answered
pub returns-clause-runs : goal.returns-clause-runs
returns-clause-runs g c =
    let at = c.loop-at in
    let commands = map command_of c.args.commands.now in
    let all : length commands ≤ at.at-index = (let same = length-map c.args.commands.now command_of in omega arith) in
    ran_whole c.args.self.now.desk at.self.desk commands at.answers (search rules)
    (subst (λ l. RanTo c.args.self.now.desk l at.answers.items at.self.desk) (take_all at.at-index commands all) at.invariant.ran)

pub loop-at-preserved : goal.loop-at-preserved
loop-at-preserved g c =
    let at = c.loop-at in
    let commands = map command_of c.args.commands.now in
    let item = c.loop-at-item.result in
    let before = take at.at-index commands in
    let answer = c.match-act.answer in
    let same = so_many command_of c.args.commands.now at.at-index at.answers.items (omega arith) at.invariant.answered in
    let answered : c.act.result ≡ as_act answer = elim c.match-act.branch [
      | in-Ok-act w ↦ w.in-Ok-act.is ∙ sym (ap as_act w.answer-is)
      | in-Err-Refused w ↦ w.in-Err-Refused.is ∙ ap Err w.in-Err-Refused.field-0-is ∙ sym (ap as_act w.answer-is)
    ] in
    let acts = subst (λ result. Acts at.self.desk item.0 (act_of item.1) result c.act.new.self.desk) answered c.act.ensures.acts in
    let makes = subst (λ result. Makes g.S.Store at.self (act_attempt item.0 (act_of item.1) result c.act.new.self.desk) c.act.new.self)
    answered c.act.ensures.makes in
    let items : c.push.new.self.items ≡ at.answers.items ++ answer ∷ [] = search rules in
    let next = sym (take_next command_of c.args.commands.now at.at-index item c.loop-at-test.true c.loop-at-item.is) in
    record {
      answered = ap length items ∙ length-append at.answers.items (answer ∷ []) ∙ ap (λ n. n + 1) at.invariant.answered;
      len = search rules;
      room = search rules;
      ran = subst (λ l. RanTo c.args.self.now.desk l c.push.new.self.items c.act.new.self.desk) next
          (subst (λ l. RanTo c.args.self.now.desk (before ++ command_of item ∷ []) l c.act.new.self.desk) (sym items)
          (ran_one_more c.args.self.now.desk at.self.desk c.act.new.self.desk before at.answers.items (command_of item) answer at.invariant.ran acts));
      first = λ none. absurd (never_empty at.answers.items answer (sym items ∙ none));
      makes = subst (λ l. AreMade g.S.Store c.args.self.now (list_attempts l c.push.new.self.items NotDone) c.act.new.self) next
          (subst (λ l. AreMade g.S.Store c.args.self.now (list_attempts (before ++ command_of item ∷ []) l NotDone) c.act.new.self) (sym items)
          (list_makes_one_more g.S.Store c.args.self.now at.self c.act.new.self before at.answers.items (command_of item) answer same
          at.invariant.makes makes));
      spares = spares_then g.S.Store c.args.self.now at.self c.act.new.self c.act.ensures.makes.clean
          (λ was s is.
          let open_with = ran_open g.S.Store s c.args.self.now at.self before at.answers.items is at.invariant.ran at.invariant.makes was in
          (open_with.0, open_with.2)) at.invariant.spares c.act.ensures.spares;
      put = λ clean s.
          subst (λ l. AcceptedArePut g.S.Store s c.args.self.now l c.push.new.self.items c.act.new.self) next
          (subst (λ l. AcceptedArePut g.S.Store s c.args.self.now (before ++ command_of item ∷ []) l c.act.new.self) (sym items)
          (λ is.
          let was = c.act.ensures.makes.clean clean in
          let open_with = ran_open g.S.Store s c.args.self.now at.self before at.answers.items is at.invariant.ran at.invariant.makes was in
          puts_one_more g.S.Store s open_with.0 c.args.self.now at.self c.act.new.self before at.answers.items (command_of item) answer
          open_with.1 open_with.2 (λ is. (at.invariant.spares.rows was s is (subst IsSome (sym open_with.2.desk) refl)).schema_is)
          (at.invariant.put was s) acts
          (subst (λ result. OnOk result (PutsAll open_with.2.kept.tables.own (rows_by open_with.0 item.0 (act_of item.1))
          (state g.S.Store at.self.conn).now (state g.S.Store c.act.new.self.conn).now)) answered (c.act.ensures.puts clean open_with.0 open_with.2))
          (subst (λ result. OnErr result (IsSome c.act.new.self.desk → c.act.new.self ≡ at.self)) answered c.act.ensures.kept) is));
      remembers = c.act.ensures.remembers
          ∙ ap (λ result. remembered (fault_of_act result) at.self.desk c.act.new.self.desk at.self.closed_by) answered
          ∙ remembers_answer answer at.self.desk c.act.new.self.desk at.self.closed_by ∙ at.invariant.remembers;
    }

pub returns-clause-puts : goal.returns-clause-puts
returns-clause-puts g c clean s =
    let at = c.loop-at in
    let commands = map command_of c.args.commands.now in
    let all : length commands ≤ at.at-index = (let same = length-map c.args.commands.now command_of in omega arith) in
    subst (λ l. AcceptedArePut g.S.Store s c.args.self.now l at.answers.items at.self) (take_all at.at-index commands all)
    (at.invariant.put clean s)
