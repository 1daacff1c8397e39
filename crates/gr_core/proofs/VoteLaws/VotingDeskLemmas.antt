-- A desk with one developer on which votes are taken: it is valid, and takes a vote.
use Rattle.std.proofs.Common.{arith, ◌≡◌, ◌≢◌, ℕ, ◌+◌, ◌<◌, ◌≤◌, Bool, true, List, [], ◌∷◌, Some, None, IsTrue, is_some, inl, inr, not, length, filter, slice_index, pos, chars, codes, refl, sym, ap, ◌∙◌, subst}
use Rattle.std.specs.Prelude.{IsUtf8, IsAscii, nat_eq}
use Rattle.std.specs.List.{AllPass}
use Rattle.std.specs.Char.{is_ascii_alphanumeric, is_control}
use Rattle.std.specs.declared.cmp.Ordering.{Ordering}
use Rattle.std.specs.Cmp.{IsTotalOrder, nat_cmp_total}
use Rattle.std.specs.FinMap.{FinMap, IsAntisymmetric, empty, entries, get, insert, len, put, entries-insert, get-empty, len-empty, len-entries, nat_cmp-IsAntisymmetric}
use Rattle.std.proofs.lemmas.List.{nil_from_length}
use Rattle.std.proofs.lemmas.Int.{ints}
use Rattle.std.proofs.lemmas.List.Elements.{All-from_recursion}
use Rattle.std.proofs.lemmas.Str.{IsUtf8-from_ascii, chars-IsAscii}
use Rattle.std.proofs.lemmas.Str.Ascii.{IsAscii-nil, IsAscii-cons}
use Rattle.gr_count.specs.Ballot.{IsBallot, IsMarkCharacter}
use Rattle.gr_core.specs.declared.limits.TheConstants.{MAX_RESOLUTIONS, MAX_CHOICES, MAX_SUMMARY_CHARACTERS, MAX_NAME_CHARACTERS, VERSION}
use Rattle.gr_count.specs.declared.limits.TheConstants.{MAX_DEVELOPERS}
use Rattle.gr_core.specs.declared.developer.Standing.TheVariants.{Current}
use Rattle.gr_core.specs.declared.discussion.Discussion.{Discussion}
use Rattle.gr_core.specs.declared.resolution.Poll.{Poll}
use Rattle.gr_core.specs.declared.resolution.Resolution.TheVariants.{Voting}
use Rattle.gr_core.specs.Parts.Key.{ballot_cmp, sponsor_cmp}
use Rattle.gr_core.specs.Parts.Login.{IsLogin, is_login_character}
use Rattle.gr_core.specs.Parts.Text.{IsLine, IsText, is_text_character}
use Rattle.gr_core.specs.Parts.Token.{IsToken}
use Rattle.gr_core.specs.Parts.Developer.{DeveloperModel}
use Rattle.gr_core.specs.Parts.Choice.{ChoiceModel, Leader, choice_key, choices_of}
use Rattle.gr_core.specs.Desks.State.{State}
use Rattle.gr_core.specs.Desks.Outcome.{place_count}
use Rattle.gr_core.specs.Desks.Valid.{IsValid, AreNumbered, IsResolution, IsChoice, IsRightlyChosen, places_of, up_to}
use Rattle.gr_core.specs.Machine.Act.{Vote}
use Rattle.gr_core.specs.Machine.Refusal.{IsAccepted}
use Rattle.gr_core.specs.Machine.Effect.{effect, counted}
use Rattle.gr_core.specs.Machine.Step.{reply_to}
use Rattle.gr_core.specs.Laws.VotingLaws.{CanVote}
use Rattle.gr_core.specs.Laws.Secrecy.{SomeDesksAreAlike}
use Rattle.gr_core.proofs.Collections.PresenceLemmas.{not_None, given, present}
use Rattle.gr_core.proofs.Collections.TextKeys.{text_total, text_only}
use Rattle.gr_core.proofs.Collections.PairKeys.{choice_total, choice_only}
use Rattle.gr_core.proofs.Collections.RowPutLemmas.{insert_cases, get-put}
use Rattle.gr_core.proofs.Effects.UnrefusedVoteLemmas.{votes_accepted}
use Rattle.gr_core.proofs.VoteLaws.SecrecyLemmas.{others_alike}

-- ==== maps with one row

module _ {J R : Type 0} {cmp : J → J → Ordering} (total : IsTotalOrder cmp) (only : IsAntisymmetric cmp) (key : J)
    (row : R) where
  abbrev one_row : FinMap cmp R
  one_row = insert empty key row

  no_entries : entries (empty {X = R} {R = cmp}) ≡ []
  no_entries = nil_from_length (entries (empty {X = R} {R = cmp})) (sym (len-entries empty) ∙ len-empty cmp R)

  entries-one : entries one_row ≡ (key, row) ∷ []
  entries-one = entries-insert total empty key row ∙ ap (put cmp key row) no_entries

  len-one : len one_row ≡ 1
  len-one = len-entries one_row ∙ ap length entries-one

  is_there : get one_row key ≡ Some row
  is_there = get-put total only empty key row

  -- what holds of the row holds of each
  each_row : (P : J → R → Type 0) → P key row → (q : J) (found : R) → get one_row q ≡ Some found → P q found
  each_row P holds q found is =
      elim (insert_cases total only empty key q row found is) [
        | inl same ↦ subst (λ k. P k found) (sym same.0) (subst (P key) same.1 holds)
        | inr none ↦ absurd (not_None found (sym (get-empty cmp q) ∙ none))
      ]

-- the number 1 alone has something
one_number : (has : ℕ → Bool) → has 1 ≡ true → ((number : ℕ) → has number ≡ true → number ≡ 1) → AreNumbered has 1
one_number has first others number = (
  (λ is. let one = others number is in (omega (arith, one), omega (arith, one))),
  (λ within. let one : 1 ≡ number = omega (arith, within.0, within.1) in subst (λ n. has n ≡ true) one first),
)

-- ==== the desk

abbrev voter : List ℕ
voter = codes "a"

abbrev word : List ℕ
word = codes "A"

abbrev developer : DeveloperModel
developer = record { name = word; standing = Current }

abbrev discussion : Discussion
discussion = record { start = 1; changed = None; shift = pos 0 }

abbrev poll : Poll
poll = record { called = 1; days = 7; developers = 1 }

abbrev only_choice : ChoiceModel
only_choice = record {
  proposer = Some Leader;
  wording = record { summary = word; text = word };
  ratio = 1;
  introduced = Some 1;
  short = None;
  place = Some 1;
}

abbrev desk : State
desk = record {
  header = record { version = VERSION; accepted = 1; clock = 1 };
  developers = insert empty voter developer;
  resolutions = insert empty 1 (Voting discussion poll);
  choices = insert empty (choice_key 1 1) only_choice;
  sponsors = empty;
  ballots = empty;
}

-- ==== its texts

is_ascii : IsAscii word
is_ascii = IsAscii-cons 65 [] (omega arith) IsAscii-nil

chars_of_word : chars word ≡ word
chars_of_word = chars-IsAscii word is_ascii

is_utf8 : IsUtf8 word
is_utf8 = IsUtf8-from_ascii word is_ascii

is_line : (limit : ℕ) → 1 ≤ limit → IsLine limit word
is_line limit room = record {
  utf8 = is_utf8;
  nonempty = subst (λ text. 0 < length text) (sym chars_of_word) (omega arith);
  short = subst (λ text. length text ≤ limit) (sym chars_of_word) room;
  printable = subst (λ text. AllPass (λ c. not (is_control c)) text) (sym chars_of_word)
      (All-from_recursion (λ c. not (is_control c) ≡ true) word (refl, tt));
}

is_text : IsText word
is_text = record {
  utf8 = is_utf8;
  nonempty = omega arith;
  short = omega arith;
  characters = subst (λ text. AllPass is_text_character text) (sym chars_of_word)
      (All-from_recursion (λ c. is_text_character c ≡ true) word (refl, tt));
}

is_login : IsLogin voter
is_login = record {
  nonempty = omega arith;
  short = omega arith;
  begins = refl;
  characters = All-from_recursion (λ c. IsTrue (is_login_character c)) voter (refl, tt);
}

-- ==== its rows

the_choices : choices_of desk.choices 1 ≡ (choice_key 1 1, only_choice) ∷ []
the_choices =
    ap (filter (λ entry. nat_eq 1 entry.0.resolution)) (entries-one choice_total choice_only (choice_key 1 1) only_choice)

numbered_choices : AreNumbered (λ number. is_some (get desk.choices (choice_key 1 number))) 1
numbered_choices =
    one_number (λ number. is_some (get desk.choices (choice_key 1 number)))
    (ap is_some (is_there choice_total choice_only (choice_key 1 1) only_choice))
    (λ number is. let row = present (get desk.choices (choice_key 1 number)) is in
    each_row choice_total choice_only (choice_key 1 1) only_choice (λ key found. key.number ≡ 1) refl
    (choice_key 1 number) row.0 row.1)

numbered_resolutions : AreNumbered (λ number. is_some (get desk.resolutions number)) 1
numbered_resolutions =
    one_number (λ number. is_some (get desk.resolutions number))
    (ap is_some (is_there nat_cmp_total nat_cmp-IsAntisymmetric 1 (Voting discussion poll)))
    (λ number is. let row = present (get desk.resolutions number) is in
    each_row nat_cmp_total nat_cmp-IsAntisymmetric 1 (Voting discussion poll) (λ key found. key ≡ 1) refl
    number row.0 row.1)

is_resolution : IsResolution 1 desk 1 (Voting discussion poll)
is_resolution = record {
  discussion = record {
    start = (omega arith, omega arith);
    changed = tt;
    shift = record { least = omega (arith, ints); most = omega (arith, ints) };
  };
  poll = record {
    called = (omega arith, omega arith);
    days = record { least = omega (arith, ints); most = omega (arith, ints) };
    developers = omega arith;
  };
  some = subst (λ es. 1 ≤ length es) (sym the_choices) (omega arith);
  few = subst (λ es. length es ≤ MAX_CHOICES) (sym the_choices) (omega arith);
  numbered = subst (λ es. AreNumbered (λ number. is_some (get desk.choices (choice_key 1 number))) (length es))
      (sym the_choices) numbered_choices;
  sole = λ draft. ap length the_choices;
  introduced = λ _. record {
    number = 1;
    found = given (get desk.choices (choice_key 1 1)) _ only_choice
        (is_there choice_total choice_only (choice_key 1 1) only_choice) refl;
  };
  places = λ _. subst (λ es. places_of es ≡ up_to (length (places_of es))) (sym the_choices) refl;
  placed = λ _. subst (λ es. 0 < length (places_of es)) (sym the_choices) (omega arith);
}

is_choice : IsChoice 1 desk.developers (Voting discussion poll) only_choice
is_choice = record {
  proposer = tt;
  summary = is_line MAX_SUMMARY_CHARACTERS (omega arith);
  text = is_text;
  ratio = (omega arith, omega arith);
  introduced = (omega arith, omega arith);
  short = tt;
  place = (refl, refl);
}

-- ==== so it is valid, and takes votes

desk_valid : IsValid desk
desk_valid = record {
  header = record {
    version = refl;
    accepted = omega arith;
    clock = omega arith;
    unused = (λ never. never, λ never. never);
  };
  tables = record {
    few = subst (λ n. n ≤ MAX_DEVELOPERS) (sym (len-one text_total text_only voter developer)) (omega arith);
    developers = each_row text_total text_only voter developer _
        (record { named = is_login; name = is_line MAX_NAME_CHARACTERS (omega arith) });
    numbered =
        let one = sym (len-one nat_cmp_total nat_cmp-IsAntisymmetric 1 (Voting discussion poll)) in
        record {
          few = subst (λ n. n ≤ MAX_RESOLUTIONS) one (omega arith);
          numbered = subst (AreNumbered (λ number. is_some (get desk.resolutions number))) one numbered_resolutions;
        };
    resolutions = each_row nat_cmp_total nat_cmp-IsAntisymmetric 1 (Voting discussion poll) (IsResolution 1 desk)
        is_resolution;
    choices = each_row choice_total choice_only (choice_key 1 1) only_choice _
        (given (get desk.resolutions 1) _ (Voting discussion poll)
        (is_there nat_cmp_total nat_cmp-IsAntisymmetric 1 (Voting discussion poll)) is_choice);
    sponsors = λ key login sponsorship is. absurd
        (not_None sponsorship (sym (get-empty sponsor_cmp (key, login)) ∙ is));
  };
  votes = record {
    ballots = λ number login ballot is. absurd (not_None ballot (sym (get-empty ballot_cmp (number, login)) ∙ is));
    chosen = each_row nat_cmp_total nat_cmp-IsAntisymmetric 1 (Voting discussion poll) (IsRightlyChosen desk) tt;
  };
}

abbrev token : List ℕ
token = codes "tokenA01"

is_token : IsToken token
is_token = record {
  long = omega arith;
  short = omega arith;
  characters = All-from_recursion (λ c. IsTrue (is_ascii_alphanumeric c)) token
      (refl, (refl, (refl, (refl, (refl, (refl, (refl, (refl, tt))))))));
}

-- a ballot has a place for the choice, and one for the default option
is_ballot : (ranks : List ℕ) → IsBallot 2 ranks → IsBallot (place_count desk.choices 1) ranks
is_ballot ranks is =
    subst (λ n. IsBallot n ranks) (sym (ap (λ es. length (filter (λ entry. is_some entry.1.place) es) + 1) the_choices))
    is

first_ranks : IsBallot 2 (codes "12")
first_ranks = (
  refl,
  All-from_recursion IsMarkCharacter (codes "12")
      (inl (omega arith, omega arith), (inl (omega arith, omega arith), tt)),
)

other_ranks : IsBallot 2 (codes "21")
other_ranks = (
  refl,
  All-from_recursion IsMarkCharacter (codes "21")
      (inl (omega arith, omega arith), (inl (omega arith, omega arith), tt)),
)

can_vote : CanVote desk 1 1 voter (codes "12") token
can_vote = record {
  developer = developer;
  on_roll = is_there text_total text_only voter developer;
  current = refl;
  discussion = discussion;
  poll = poll;
  held = is_there nat_cmp_total nat_cmp-IsAntisymmetric 1 (Voting discussion poll);
  time = omega arith;
  well_formed = is_token;
  whole = is_ballot (codes "12") first_ranks;
}

takes_a_vote : IsAccepted desk 1 (Vote 1 voter (codes "12") token)
takes_a_vote =
    votes_accepted desk 1 1 voter (codes "12") token desk_valid
    (record { moment = (omega arith, omega arith); clock = omega arith; room = omega arith }) can_vote

differ : codes "21" ≢ codes "12"
differ same = let first : 50 ≡ 49 = ap (λ ranks. slice_index ranks 0) same in absurd (omega (arith, first))

-- the states after this vote and after one with other ranks
pub some_alike : SomeDesksAreAlike
some_alike =
    let vote = Vote 1 voter (codes "12") token in
    let t = counted (effect desk 1 vote) 1 in
    let others = others_alike desk 1 1 voter (codes "12") (codes "21") token (reply_to desk 1 vote) t desk_valid
    (takes_a_vote, refl, refl) (is_ballot (codes "21") other_ranks) differ in
    (t, others.0, others.2, others.3, others.4, others.5)
