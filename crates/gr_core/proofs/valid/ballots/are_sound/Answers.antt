use Rattle.std.proofs.Common.{◌<◌, ◌≤◌, List, [], ◌∷◌, IsSome, string_bytes, String, rules, tests}
use Rattle.std.specs.Prelude.{option_and_then}
use Rattle.std.specs.List.{All, AllByRecursion}
use Rattle.std.specs.FinMap.{get}
use Rattle.std.specs.declared.alloc.Global.{Global}
use Rattle.std.proofs.lemmas.Iterator.{cases_from_all}
use Rattle.std.proofs.lemmas.Iterator.Consumers.{YieldsList-from_rest}
use Rattle.std.proofs.lemmas.List.Elements.{All-from_recursion, All-head, All-tail, All-weaker}
use Rattle.gr_core.specs.declared.ballot.Ballot.{Ballot}
use Rattle.gr_core.specs.Desks.Outcome.{place_count}
use Rattle.gr_core.specs.Desks.Valid.{IsBallotIn}
use Rattle.gr_core.specs.Parts.Ballot.{ballot_model, AreRanks}
use Rattle.gr_core.specs.Parts.Receipt.{IsReceipt}
use Rattle.gr_core.specs.Parts.Resolution.{poll_of}
use Rattle.gr_core.proofs.Collections.RowTestLemmas.{both_ways, told_of_each}
use Rattle.gr_core.proofs.valid.ballots.are_sound.Goals as goal

-- what holds of each element by two facts
by_both : {A : Type 0} (P Q R : A → Type 0) → ((x : A) → P x → Q x → R x) → (xs : List A) → All P xs → All Q xs
    → AllByRecursion R xs
by_both P Q R both [] ps qs = tt
by_both P Q R both (x ∷ xs) ps qs =
    (both x (All-head P x xs ps) (All-head Q x xs qs), by_both P Q R both xs (All-tail P x xs ps) (All-tail Q x xs qs))

pub returns : goal.returns
returns c =
    let s = c.args.tables.now in
    let resolution = c.args.resolution in
    let table = c.args.ballots.now.entries in
    let IsOn : String Global × Ballot → Type 0 = λ entry. IsSome (get s.developers (string_bytes entry.0)) in
    let Holds : String Global × Ballot → Type 0 = λ entry. IsBallotIn s resolution (string_bytes entry.0) (ballot_model entry.1) in
    let IsSound : String Global × Ballot → Type 0 = λ entry.
    IsSome (option_and_then poll_of (get s.resolutions resolution))
    × ((AreRanks (place_count s.choices resolution) (ballot_model entry.1).ranks × IsReceipt (ballot_model entry.1).receipt)
    × ((0 < (ballot_model entry.1).received) × ((ballot_model entry.1).received ≤ s.header.accepted))) in
    both_ways (told_of_each IsSound c.all.result table
    (cases_from_all _ _ c.all.result IsSound (λ entry. ¬ (IsSound entry)) c.all.ensures.ran
    (YieldsList-from_rest table c.iter.ensures.rest) (λ x q k. search (rules, tests)) (λ x q k. search (rules, tests)))) (
      λ sound. record {
        each = All-from_recursion Holds table (by_both IsOn IsSound Holds (λ entry on is. record {
          poll = is.0;
          on_roll = on;
          ranks = is.1.0.0;
          receipt = is.1.0.1;
          received = is.1.1;
        }) table c.requires.each sound);
      },
      λ holds. All-weaker Holds IsSound (λ entry is. (is.poll, ((is.ranks, is.receipt), is.received))) table holds.each,
    )
