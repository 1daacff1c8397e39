use Rattle.std.proofs.Common.{◌≡◌, ◌+◌, ◌<◌, ◌≤◌, [], ◌∷◌, ◌++◌, map, length, length-append, take, string_bytes, sym, ap, ◌∙◌, subst, arith, rules}
use lib.Dec.{T}
use Rattle.std.specs.List.{All}
use Rattle.std.specs.BTreeMap.{values}
use Rattle.std.specs.FinMap.{is_sorted, from_entries}
use Rattle.std.specs.Map.Iter.{deref}
use Rattle.std.proofs.Math.Seq.{take-length}
use Rattle.std.proofs.lemmas.List.{length-map}
use Rattle.std.proofs.lemmas.Map.Iter.{iter_turn, iter_end}
use Rattle.gr_count.specs.declared.limits.TheConstants.{MAX_BALLOTS}
use Rattle.gr_count.specs.Shown.{marks_in, ballots_in, options_of_ranks}
use Rattle.gr_count.specs.PairwiseCount.{IsPairwiseCountOf}
use Rattle.gr_core.specs.declared.ballot.Ballot.{Ballot}
use Rattle.gr_core.specs.Parts.Key.{text_cmp}
use Rattle.gr_core.specs.InMemory.Ballots.{voter_in}
use Rattle.gr_core.proofs.Collections.TableLemmas.{sorted-entries}
use Rattle.gr_core.proofs.Collections.TextKeys.{text_total, text_only}
use Rattle.gr_core.proofs.Contents.PairwiseCountLemmas.{one_voter_more}
use Rattle.gr_core.proofs.Collections.WalkLemmas.{walk-here, Turn, turn_of, all-middle}
use Rattle.gr_core.proofs.ballots.added_up.Goals as goal

pub add-requires-clause-room : goal.add-requires-clause-room
add-requires-clause-room c =
    let all = values c.args.ballots.now in
    let turn : length c.loop-ballot.yielded < length all =
    (iter_turn deref all c.loop-ballot.yielded _ _ _ _ (cc)
    c.loop-ballot.yielded_by _ c.in-Some.is c.next.ensures.steps).0 in
    let count : length all ≡ length c.args.ballots.now.entries =
    length-map c.args.ballots.now.entries (λ entry. entry.1) in
    let few : length c.args.ballots.now.entries ≤ MAX_BALLOTS = c.requires.room in
    let ballots : ballots_in c.loop-ballot.pairs ≡ length c.loop-ballot.yielded = c.loop-ballot.invariant.ballots in
    omega arith

pub add-requires-clause-same : goal.add-requires-clause-same
add-requires-clause-same c =
    let es = c.args.ballots.now.entries in
    let at = turn_of (λ entry. entry.1) es (map deref c.loop-ballot.yielded) c.in-Some.ballot.now _
    (walk-here deref (values c.args.ballots.now) c.loop-ballot.yielded _ _ _ _ (cc)
    c.loop-ballot.yielded_by _ c.in-Some.is c.next.ensures.steps) in
    ap (λ (ballot : Ballot). options_of_ranks ballot.ranks) (sym at.is)
    ∙ all-middle (λ entry. options_of_ranks entry.1.ranks ≡ c.args.places) _ at.element at.behind
    (subst (All (λ entry. options_of_ranks entry.1.ranks ≡ c.args.places)) at.split c.requires.same)
    ∙ sym c.loop-ballot.invariant.options

pub loop-ballot-preserved : goal.loop-ballot-preserved
loop-ballot-preserved c =
    let es = c.args.ballots.now.entries in
    let at : Turn (λ entry. entry.1) es (length c.loop-ballot.yielded) c.in-Some.ballot.now =
    subst (λ turn. Turn (λ entry. entry.1) es turn c.in-Some.ballot.now) (length-map c.loop-ballot.yielded deref)
    (turn_of (λ entry. entry.1) es (map deref c.loop-ballot.yielded) c.in-Some.ballot.now _
    (walk-here deref (values c.args.ballots.now) c.loop-ballot.yielded _ _ _ _ (cc)
    c.loop-ballot.yielded_by _ c.in-Some.is c.next.ensures.steps)) in
    let sorted : T (is_sorted text_cmp (map voter_in es)) =
    sorted-entries text_total text_only string_bytes
    (λ (ballot : Ballot). marks_in ballot.ranks) es c.requires.ordered in
    let count : length (c.loop-ballot.yielded ++ c.in-Some.ballot ∷ []) ≡ length c.loop-ballot.yielded + 1 =
    length-append c.loop-ballot.yielded (c.in-Some.ballot ∷ []) in
    record {
      options = c.add.ensures.added.options ∙ c.loop-ballot.invariant.options;
      ballots = c.add.ensures.added.ballots ∙ ap (λ n. n + 1) c.loop-ballot.invariant.ballots ∙ sym count;
      tally =
          subst (λ n. IsPairwiseCountOf c.add.new.self (from_entries (map voter_in (take n es)))) (sym count)
          (one_voter_more es (length c.loop-ballot.yielded) c.in-Some.ballot.now sorted at
          c.loop-ballot.pairs c.add.new.self c.add.ensures.vote c.loop-ballot.invariant.tally);
      can_next = tt;
      finite = tt;
    }

pub returns-clause-tally : goal.returns-clause-tally
returns-clause-tally c =
    let es = c.args.ballots.now.entries in
    let all : map deref c.loop-ballot.yielded ≡ values c.args.ballots.now = search (rules, iter_end) in
    let count : length c.loop-ballot.yielded ≡ length es =
    sym (length-map c.loop-ballot.yielded deref) ∙ ap length all ∙ length-map es (λ entry. entry.1) in
    subst (λ these. IsPairwiseCountOf c.loop-ballot.pairs (from_entries (map voter_in these)))
    (ap (λ n. take n es) count ∙ take-length es) c.loop-ballot.invariant.tally
