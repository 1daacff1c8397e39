-- Words that ask for no line, and what is found in the words of a subcommand that `clap` takes.
use Rattle.std.proofs.Common.{◌≡◌, ◌∙◌, ◌<◌, ◌^◌, ℕ, Bool, true, false, List, Option, None, Some, refl, sym, subst, ap, codes, eqb, arith}
use Rattle.std.specs.List.{starts_with}
use Rattle.std.proofs.lemmas.Option.{same_Some}
use Rattle.std.specs.Prelude.{find, option_and_then, option_map, pos, slice_get}
use Rattle.std.specs.Str.{bytes_eq}
use Rattle.std.specs.Str.Parse.{digits_value, without_leading_plus}
use Rattle.clap.specs.Built.{IsParsedFrom}
use Rattle.clap.specs.declared.builder.command.Command.{Command}
use Rattle.clap.specs.declared.builder.action.ArgAction.TheVariants.{Set}
use Rattle.clap.specs.declared.builder.value_parser.ValueParser.TheVariants.{Signed, Unsigned}
use Rattle.clap.specs.declared.parser.matches.ArgMatches.{ArgMatches}
use Rattle.clap.specs.Lexer.{without_minus}
use Rattle.clap.specs.Matches.{found_of}
use Rattle.clap.specs.Simple.{App, HasMatchesOf, app_of, is_simple, matches_of}
use Rattle.clap.specs.Takes.{takes}
use Rattle.clap.specs.Values.{read_as}
use Rattle.clap.specs.Walk.{Row, Rule, first_of, one_of, row_text, rows_of}
use Rattle.gr_sheet.specs.declared.kind.Kind.{Kind}
use Rattle.gr_sheet.specs.declared.kind.Kind.TheVariants as kinds
use Rattle.gr_desk.specs.declared.limits.TheConstants.{MIN_PORT, MAX_PORT, MIN_COUNT, MAX_COUNT, MIN_NUMBER, MAX_NUMBER, MAX_AT}
use Rattle.gr_desk.specs.declared.line.Line.{Line}
use Rattle.gr_desk.specs.declared.line.Line.TheVariants.{Import, Init, Migrate, Once, Serve, Show}
use Rattle.gr_desk.specs.Words.{AskFor, AskForNone, BeginsWith, HasNumber, HasNumberWithin, HasResolution, HasSomeMoment, HasSomeNumber, HasSomeText, HasText, ShowsResolution, app_for, sheet_name, show_app}
use Rattle.gr_desk.specs.Words.{file_app, import_app, init_app, once_app, serve_app, sheet_app}
use Rattle.gr_desk.specs.Words.{at_rule, count_rule, number_rule, port_rule, word_rule}
use Rattle.gr_desk.proofs.FoundLemmas.{IsRead, IsRuleAt, decimal_passed, is_own, only_at, read_as_app, rules_are_plain, text_found, text_passed}

-- ==== no line

-- the name of the subcommand of a line
abbrev name_of : Line → List ℕ
name_of (Init file has_sums) = codes "init"
name_of (Once file at) = codes "once"
name_of (Serve file port count at) = codes "serve"
name_of (Import file roll at) = codes "import"
name_of (Show file kind number) = sheet_name kind
name_of (Migrate file) = codes "migrate"

-- what `clap` reads of the subcommand with this name
abbrev pick : Bool → App → App → App
pick true here others = here
pick false here others = others

abbrev among : List ℕ → List ℕ → App → App → App
among name this here others = pick (starts_with eqb name this) here others

abbrev app_named : List ℕ → App
app_named name =
    among name (codes "init") init_app
    (among name (codes "once") once_app
    (among name (codes "serve") serve_app
    (among name (codes "import") import_app
    (among name (codes "roll") (file_app (codes "roll"))
    (among name (codes "status") (sheet_app (codes "status"))
    (among name (codes "tally") (sheet_app (codes "tally"))
    (among name (codes "result") (sheet_app (codes "result"))
    (file_app (codes "migrate")))))))))

asked_name : (words : List (List ℕ)) (line : Line) → AskFor words line → BeginsWith (name_of line) words
asked_name words (Init file has_sums) asks = asks.0
asked_name words (Once file at) asks = asks.0
asked_name words (Serve file port count at) asks = asks.0
asked_name words (Import file roll at) asks = asks.0
asked_name words (Show file kind number) asks = asks.0
asked_name words (Migrate file) asks = asks.0

asked_app : (line : Line) → app_for line ≡ app_named (name_of line)
asked_app (Init file has_sums) = refl
asked_app (Once file at) = refl
asked_app (Serve file port count at) = refl
asked_app (Import file roll at) = refl
asked_app (Show file kinds.Roll number) = refl
asked_app (Show file kinds.Status number) = refl
asked_app (Show file kinds.Tally number) = refl
asked_app (Show file kinds.Result number) = refl
asked_app (Migrate file) = refl

-- words that `clap` does not take for their subcommand ask for no line
pub none_asked : (name : List ℕ) (words : List (List ℕ)) → BeginsWith name words → takes (app_named name) words ≡ false
    → AskForNone words
none_asked name words begins not_taken line asks =
    let same : name_of line ≡ name = same_Some _ _ (sym (asked_name words line asks) ∙ begins) in
    ap (λ app. takes app words) (asked_app line ∙ ap app_named same) ∙ not_taken

-- ==== what is found

-- what `clap` finds are the matches of the subcommand on the words
pub found_rows : (read app : App) (words : List (List ℕ)) (m : ArgMatches) → read ≡ app → is_simple app ≡ true
    → HasMatchesOf read words m → rows_of (found_of m) ≡ matches_of app words
found_rows read app words m same simple has = (subst (λ a. HasMatchesOf a words m) same has simple).0

-- the line of a sheet is the one that the words ask for
pub sheet_asked : (kind : Kind) (words : List (List ℕ)) (rows : List Row) (line : Line) → BeginsWith (sheet_name kind) words
    → rows ≡ matches_of (sheet_app (sheet_name kind)) words → show_app kind ≡ sheet_app (sheet_name kind)
    → ((found : List Row) (number : ℕ) → HasNumberWithin MIN_NUMBER MAX_NUMBER found (codes "number") number
    → HasResolution found kind number)
    → ShowsResolution rows kind line → AskFor words line
sheet_asked kind words rows (Show file shown number) begins same app numbered (is, text, within) =
    let found = same ∙ ap (λ a. matches_of a words) (sym app) in
    subst (λ k. AskFor words (Show file k number)) (sym is) (
      begins,
      subst (λ r. HasText r (codes "file") file.now) found text,
      subst (λ r. HasResolution r kind number) found (numbered rows number within),
    )
sheet_asked kind words rows (Init file has_sums) begins same app numbered shows = absurd shows
sheet_asked kind words rows (Once file at) begins same app numbered shows = absurd shows
sheet_asked kind words rows (Serve file port count at) begins same app numbered shows = absurd shows
sheet_asked kind words rows (Import file roll at) begins same app numbered shows = absurd shows
sheet_asked kind words rows (Migrate file) begins same app numbered shows = absurd shows

-- where no word is there, none is read
pub none_read : (rows : List Row) (id : List ℕ) → first_of id rows ≡ None → one_of id rows ≡ None
none_read rows id none = by (find (λ r. bytes_eq r.id id) rows) none
  where
    by : (row : Option Row) → option_and_then (λ r. slice_get r.values 0) row ≡ None → option_and_then row_text row ≡ None
    by None none = refl
    by (Some row) none = ap (option_map (read_as row.reading)) none

-- a word has one number
pub same_number : (rows : List Row) (id : List ℕ) (a b : ℕ) → HasNumber rows id a → HasNumber rows id b → a ≡ b
same_number rows id a b (text, is, digits) (other, also, others) =
    let same = same_Some _ _ (sym is ∙ also) in
    sym digits.1 ∙ ap (λ t. digits_value 10 (without_leading_plus t)) same ∙ others.1

-- so it lies where one that is found lies
pub within : (rows : List Row) (id : List ℕ) (least most n : ℕ) → HasSomeNumber least most rows id → HasNumber rows id n
    → HasNumberWithin least most rows id n
within rows id least most n (number, (has, low, high)) is =
    let same = same_number rows id number n has is in
    subst (HasNumberWithin least most rows id) same (has, low, high)

-- a number that is found is no greater than a `u64`
pub has_number : (rows : List Row) (id : List ℕ) (least most : ℕ) → most < 2 ^ 64 → HasSomeNumber least most rows id
    → (number : ℕ) × HasNumber rows id number × (number < 2 ^ 64)
has_number rows id least most fits (number, (has, low, high)) = (number, has, omega (arith, high, fits))

module _ (c : Command) (app : App) (same : app_of c ≡ app) (plain : rules_are_plain app ≡ true) (m : ArgMatches)
    (parsed : IsParsedFrom c m) where
  read : IsRead c app
  read = read_as_app c app same plain

  -- a required word
  pub word_found : (place : ℕ) (id : List ℕ) → IsRuleAt app place (word_rule id) → HasSomeText (rows_of (found_of m)) id
  word_found place id of = text_found c app read m parsed place (word_rule id) of refl refl refl

  -- a required number
  pub number_found : (place : ℕ) (rule : Rule) (least most : ℕ) → IsRuleAt app place rule → rule.required ≡ true
      → rule.action ≡ Some Set → rule.range ≡ None → rule.parser ≡ Some (Signed (pos least) (pos most))
      → rule.ignore_case ≡ false → HasSomeNumber least most (rows_of (found_of m)) rule.id
  number_found place rule least most of required set range by exact =
      let (text, is) = text_found c app read m parsed place rule of required set range in
      let (accepts, read_is) = text_passed c app read m parsed place rule of text is _ by exact in
      let (number, decimal, low, high) = decimal_passed least most text accepts in
      (number, ((without_minus text, read_is, decimal), low, high))

  -- a moment, where one is given
  pub moment_found : (place : ℕ) → IsRuleAt app place at_rule → HasSomeMoment (rows_of (found_of m))
  moment_found place of = by (first_of (codes "at") (rows_of (found_of m))) refl
    where
      by : (given : Option (List ℕ)) → first_of (codes "at") (rows_of (found_of m)) ≡ given
          → HasSomeMoment (rows_of (found_of m))
      by None none = (None, none)
      by (Some text) is =
          let (accepts, read_is) = text_passed c app read m parsed place at_rule of text is (Unsigned 0 MAX_AT) refl refl in
          (Some _, ((text, read_is, (accepts.0, refl)), accepts.2, accepts.3))

-- a rule of a subcommand stands at its place
at_place : (app : App) (place : ℕ) (rule : Rule) → slice_get app.top.rules place ≡ Some rule
    → only_at app.top.rules rule.id place ≡ true → is_own rule.id ≡ true → IsRuleAt app place rule
at_place app place rule there only own = record { there = there; only = only; own = own }

module _ (c : Command) (m : ArgMatches) (parsed : IsParsedFrom c m) where
  abbrev rows : List Row
  rows = rows_of (found_of m)

  pub file_found : (name : List ℕ) → app_of c ≡ file_app name → HasSomeText rows (codes "file")
  file_found name same =
      word_found c (file_app name) same refl m parsed 0 (codes "file") (at_place _ _ _ refl refl refl)

  pub init_found : app_of c ≡ init_app → HasSomeText rows (codes "file")
  init_found same = word_found c init_app same refl m parsed 0 (codes "file") (at_place _ _ _ refl refl refl)

  pub once_found : app_of c ≡ once_app → HasSomeText rows (codes "file") × HasSomeMoment rows
  once_found same = (
    word_found c once_app same refl m parsed 0 (codes "file") (at_place _ _ _ refl refl refl),
    moment_found c once_app same refl m parsed 1 (at_place _ _ _ refl refl refl),
  )

  pub serve_found : app_of c ≡ serve_app → HasSomeText rows (codes "file")
      × HasSomeNumber MIN_PORT MAX_PORT rows (codes "port") × HasSomeNumber MIN_COUNT MAX_COUNT rows (codes "count")
      × HasSomeMoment rows
  serve_found same = (
    word_found c serve_app same refl m parsed 0 (codes "file") (at_place _ _ _ refl refl refl),
    number_found c serve_app same refl m parsed 1 port_rule _ _ (at_place _ _ _ refl refl refl) refl refl refl refl refl,
    number_found c serve_app same refl m parsed 2 count_rule _ _ (at_place _ _ _ refl refl refl) refl refl refl refl refl,
    moment_found c serve_app same refl m parsed 3 (at_place _ _ _ refl refl refl),
  )

  pub import_found : app_of c ≡ import_app → HasSomeText rows (codes "file") × HasSomeText rows (codes "csv")
      × HasSomeMoment rows
  import_found same = (
    word_found c import_app same refl m parsed 0 (codes "file") (at_place _ _ _ refl refl refl),
    word_found c import_app same refl m parsed 1 (codes "csv") (at_place _ _ _ refl refl refl),
    moment_found c import_app same refl m parsed 2 (at_place _ _ _ refl refl refl),
  )

  pub sheet_found : (name : List ℕ) → app_of c ≡ sheet_app name → HasSomeText rows (codes "file")
      × HasSomeNumber MIN_NUMBER MAX_NUMBER rows (codes "number")
  sheet_found name same = (
    word_found c (sheet_app name) same refl m parsed 0 (codes "file") (at_place _ _ _ refl refl refl),
    number_found c (sheet_app name) same refl m parsed 1 number_rule _ _ (at_place _ _ _ refl refl refl)
        refl refl refl refl refl,
  )
