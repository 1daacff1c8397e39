use Rattle.std.proofs.Common.{◌≡◌, ◌≤◌, ◌<◌, Result, Ok, Err, Option, Some, None, refl, sym, ap, ◌∙◌, subst, arith, rules}
use Rattle.std.specs.Prelude.{IfOk, map, option_map}
use Rattle.std.specs.FinMap.{get}
use Rattle.gr_count.specs.Ballot.{character_of}
use Rattle.gr_count.specs.Shown.{marks_in}
use Rattle.gr_core.specs.declared.ballot.Ballot.{Ballot}
use Rattle.gr_core.specs.declared.finding.Finding.TheVariants as finding
use Rattle.gr_core.specs.declared.limits.TheConstants.{MAX_ACCEPTED}
use Rattle.gr_core.specs.Parts.Ballot.{BallotModel, ballot_model, received_of}
use Rattle.gr_core.specs.Parts.Choice.{proposer_of, wording_of}
use Rattle.gr_core.specs.Machine.Refusal.{IsAccepted}
use Rattle.gr_core.specs.Machine.Finding.{act_in, IsFoundOn}
use Rattle.gr_core.specs.Machine.Counting.{Counts}
use Rattle.gr_core.proofs.Columns.RanksLemmas.{marks-of-characters}
use Rattle.gr_core.proofs.Validity.RoomLemmas.{moment_fits, room_to_propose, room_to_add, days_of_call, choices_of_call, current_fit, room_for_one}
use Rattle.gr_core.proofs.Validity.VoteValidLemmas.{few_received}
use Rattle.gr_core.proofs.plan.Effect.of.Goals as goal

pub propose-requires : goal.propose-requires
propose-requires c =
    let s = c.args.tables.now in
    let accepted = subst (λ finding. IsAccepted s c.args.at (act_in finding)) c.in-Propose.is c.requires.accepted in
    room_to_propose s c.args.at (proposer_of c.in-Propose.found.proposer.now) (wording_of c.in-Propose.found.wording.now) c.in-Propose.found.ratio accepted

pub add_choice-requires-clause-room : goal.add_choice-requires-clause-room
add_choice-requires-clause-room c =
    let s = c.args.tables.now in
    let accepted = subst (λ finding. IsAccepted s c.args.at (act_in finding)) c.in-AddChoice.is c.requires.accepted in
    room_to_add s c.args.at c.in-AddChoice.found.number (proposer_of c.in-AddChoice.found.proposer.now) (wording_of c.in-AddChoice.found.wording.now)
    c.in-AddChoice.found.ratio accepted

pub call-requires-clause-moment : goal.call-requires-clause-moment
call-requires-clause-moment c = moment_fits c.args.tables.now c.args.at (act_in c.args.finding.now) c.requires.accepted

pub call-requires-clause-days : goal.call-requires-clause-days
call-requires-clause-days c =
    let s = c.args.tables.now in
    let accepted = subst (λ finding. IsAccepted s c.args.at (act_in finding)) c.in-Call.is c.requires.accepted in
    days_of_call s c.args.at c.in-Call.found.number c.in-Call.found.days accepted

pub call-requires-clause-choices : goal.call-requires-clause-choices
call-requires-clause-choices c =
    let s = c.args.tables.now in
    let accepted = subst (λ finding. IsAccepted s c.args.at (act_in finding)) c.in-Call.is c.requires.accepted in
    choices_of_call s c.args.at c.in-Call.found.number c.in-Call.found.days c.requires.valid accepted

pub call-requires-clause-developers : goal.call-requires-clause-developers
call-requires-clause-developers c = current_fit c.args.tables.now c.requires.valid

pub vote-requires : goal.vote-requires
vote-requires c =
    let s = c.args.tables.now in
    let resolution = c.in-Vote.found.resolution in
    let login = c.in-Vote.found.login.now in
    let found = subst (IsFoundOn s c.args.at) c.in-Vote.is c.requires.found in
    let stood : received_of (option_map ballot_model c.in-Vote.found.earlier) ≡ received_of (get s.ballots (resolution, login)) =
    ap received_of found.1 in
    let few : received_of (get s.ballots (resolution, login)) ≤ s.header.accepted = few_received s c.requires.valid.votes resolution login in
    let room : s.header.accepted < MAX_ACCEPTED = room_for_one s c.args.at (act_in c.args.finding.now) c.requires.accepted in
    omega arith

pub returns-in-Amend-clause-rows : goal.returns-in-Amend-clause-rows
returns-in-Amend-clause-rows c =
    let found = subst (IsFoundOn c.args.tables.now c.args.at) c.in-Amend.is c.requires.found in
    let rows = c.amend.ensures.rows c.args.tables.now found.0 found.1 in search (rules, rows)

pub returns-in-Vary-clause-rows : goal.returns-in-Vary-clause-rows
returns-in-Vary-clause-rows c =
    let found = subst (IsFoundOn c.args.tables.now c.args.at) c.in-Vary.is c.requires.found in
    let rows = c.vary.ensures.rows c.args.tables.now c.args.at found in search (rules, rows)

pub returns-in-Vote-clause-rows : goal.returns-in-Vote-clause-rows
returns-in-Vote-clause-rows c =
    let found = subst (IsFoundOn c.args.tables.now c.args.at) c.in-Vote.is c.requires.found in
    let marks = marks_in c.in-Vote.found.ranks in
    let rows = c.vote.ensures.rows c.args.tables.now c.args.at (map character_of marks) (marks-of-characters marks found.0.marks) found.1 in
    search (rules, rows)

pub returns-in-Close-clause-rows : goal.returns-in-Close-clause-rows
returns-in-Close-clause-rows c =
    let found = subst (IsFoundOn c.args.tables.now c.args.at) c.in-Close.is c.requires.found in
    let rows = c.close.ensures.rows c.args.tables.now c.args.at found in search (rules, rows)

pub returns-in-Cast-clause-rows : goal.returns-in-Cast-clause-rows
returns-in-Cast-clause-rows c =
    let found = subst (IsFoundOn c.args.tables.now c.args.at) c.in-Cast.is c.requires.found in
    let rows = c.cast.ensures.rows c.args.tables.now c.args.at found.0 found.1 in search (rules, rows)

-- what follows of the value on success
on_ok : {T E : Type 0} {P Q : T → Type 0} (result : Result T E) → ((value : T) → P value → Q value) → IfOk result P → IfOk result Q
on_ok (Ok value) follows it = follows value it
on_ok (Err error) follows it = tt

-- the ranks of a ballot in memory say its marks
same_marks : (found : Option Ballot) → option_map marks_in (option_map (λ (ballot : Ballot). ballot.ranks) found)
    ≡ option_map (λ (row : BallotModel). row.ranks) (option_map ballot_model found)
same_marks None = refl
same_marks (Some ballot) = refl

pub returns-in-Vote-clause-counts : goal.returns-in-Vote-clause-counts
returns-in-Vote-clause-counts c =
    let s = c.args.tables.now in
    let vote = c.in-Vote.found in
    let found = subst (IsFoundOn s c.args.at) c.in-Vote.is c.requires.found in
    subst (λ it. IfOk c.vote.result (λ own. Counts s c.args.at (act_in it) own.counting)) (sym c.in-Vote.is)
    (on_ok c.vote.result (λ own is. subst (Counts s c.args.at (act_in (finding.Vote vote))) (sym is) (
      option_map (λ ballot. ballot.ranks) vote.earlier,
      vote.ranks,
      refl,
      sym (marks-of-characters (marks_in vote.ranks) found.0.marks),
      same_marks vote.earlier ∙ ap (option_map (λ (row : BallotModel). row.ranks)) found.1,
    )) c.vote.ensures.counts)
