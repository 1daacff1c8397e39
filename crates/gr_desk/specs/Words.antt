-- The words of a command line, as the crate `clap` reads them.
use Rattle.std.specs.Prelude.{◌≡◌, ◌≤◌, ◌⊎◌, ◌↔◌, ⊤, ℕ, Bool, List, [], ◌∷◌, Option, Some, None, MatchOption, slice_get, codes, eqb, pos, true, false, string_bytes, IsTrue}
use Rattle.std.specs.List.{starts_with}
use Rattle.std.specs.Str.Parse.{IsNumeral, digits_value, without_leading_plus}
use Rattle.clap.specs.declared.builder.action.ArgAction.TheVariants.{Set, SetTrue}
use Rattle.clap.specs.declared.builder.value_parser.ValueParser.TheVariants.{Signed, Unsigned}
use Rattle.clap.specs.declared.error.kind.ErrorKind.TheVariants.{DisplayHelp, DisplayVersion}
use Rattle.clap.specs.Faults.{fault_of}
use Rattle.clap.specs.Kinds.{IsAmong}
use Rattle.clap.specs.Simple.{App, new_app, new_rule, with_rule, matches_of}
use Rattle.clap.specs.Takes.{takes}
use Rattle.clap.specs.Walk.{Row, Rule, first_of, one_of}
use Rattle.gr_sheet.specs.declared.kind.Kind.{Kind}
use Rattle.gr_sheet.specs.declared.kind.Kind.TheVariants as kinds
use Rattle.gr_desk.specs.declared.limits.TheConstants.{MIN_PORT, MAX_PORT, MIN_COUNT, MAX_COUNT}
use Rattle.gr_desk.specs.declared.limits.TheConstants.{MIN_NUMBER, MAX_NUMBER, MAX_AT}
use Rattle.gr_desk.specs.declared.line.Line.{Line}
use Rattle.gr_desk.specs.declared.line.Line.TheVariants.{Init, Once, Serve, Import, Show, Migrate}
use Rattle.gr_desk.specs.declared.line.NoLine.{NoLine}
use Rattle.gr_desk.specs.declared.line.NoLine.TheVariants.{Help, Memory, Words}

-- ---- what `clap` reads of each subcommand

-- a required word
abbrev pub word_rule : List ℕ → Rule
word_rule id = record (new_rule id) { action = Some Set; required = true; value_names = 1 }

abbrev pub file_rule : Rule
file_rule = word_rule (codes "file")

abbrev pub csv_rule : Rule
csv_rule = word_rule (codes "csv")

abbrev pub number_rule : Rule
number_rule = record (word_rule (codes "number")) { parser = Some (Signed (pos MIN_NUMBER) (pos MAX_NUMBER)) }

abbrev pub port_rule : Rule
port_rule = record (word_rule (codes "port")) {
  long = Some (codes "port");
  parser = Some (Signed (pos MIN_PORT) (pos MAX_PORT));
}

abbrev pub count_rule : Rule
count_rule = record (word_rule (codes "count")) {
  long = Some (codes "count");
  parser = Some (Signed (pos MIN_COUNT) (pos MAX_COUNT));
}

abbrev pub at_rule : Rule
at_rule = record (new_rule (codes "at")) {
  long = Some (codes "at");
  action = Some Set;
  value_names = 1;
  parser = Some (Unsigned 0 MAX_AT);
}

-- a subcommand that takes a file alone
abbrev pub file_app : List ℕ → App
file_app name = with_rule (new_app name) file_rule

-- a word that asks for sums, and takes no value
abbrev pub sums_rule : Rule
sums_rule = record (new_rule (codes "sums")) { long = Some (codes "sums"); action = Some SetTrue }

-- a subcommand that takes a file, and may ask for sums
abbrev pub init_app : App
init_app = with_rule (file_app (codes "init")) sums_rule

-- a subcommand that takes a file and a moment
abbrev pub once_app : App
once_app = with_rule (file_app (codes "once")) at_rule

-- a subcommand that takes a file and a port, and one that takes besides how many connections, and a moment
abbrev pub port_app : App
port_app = with_rule (file_app (codes "serve")) port_rule

abbrev pub serve_app : App
serve_app = with_rule (with_rule port_app count_rule) at_rule

-- a subcommand that takes a file and a roll's file, and one that takes a moment besides
abbrev pub csv_app : App
csv_app = with_rule (file_app (codes "import")) csv_rule

abbrev pub import_app : App
import_app = with_rule csv_app at_rule

-- a subcommand that takes a file and the number of a resolution
abbrev pub sheet_app : List ℕ → App
sheet_app name = with_rule (file_app name) number_rule

-- ---- what it finds

-- the word of an argument is this text
abbrev pub HasText : List Row → List ℕ → List ℕ → Type 0
HasText rows id text = first_of id rows ≡ Some text

-- The text is a number in decimal: its digits, after a plus sign or not, with zeros in front or not.
abbrev pub IsDecimal : List ℕ → ℕ → Type 0
IsDecimal text number =
    IsNumeral 10 (without_leading_plus text) × (digits_value 10 (without_leading_plus text) ≡ number)

-- the word of an argument is this number
abbrev pub HasNumber : List Row → List ℕ → ℕ → Type 0
HasNumber rows id number = (text : List ℕ) × (one_of id rows ≡ Some text) × IsDecimal text number

-- and it lies between these two
abbrev pub HasNumberWithin : ℕ → ℕ → List Row → List ℕ → ℕ → Type 0
HasNumberWithin least most rows id number = HasNumber rows id number × (least ≤ number) × (number ≤ most)

-- a flag is among the words, or is not
abbrev pub HasFlag : List Row → List ℕ → Bool → Type 0
HasFlag rows id is_set = IsTrue is_set ↔ (first_of id rows ≡ Some (codes "true"))

-- the moment that is given, if one is
abbrev pub HasMoment : List Row → Option ℕ → Type 0
HasMoment rows at = MatchOption at (first_of (codes "at") rows ≡ None)
    (HasNumberWithin 0 MAX_AT rows (codes "at"))

-- the argument has a word
abbrev pub HasSomeText : List Row → List ℕ → Type 0
HasSomeText rows id = (text : List ℕ) × HasText rows id text

-- its word is a number between these two
abbrev pub HasSomeNumber : ℕ → ℕ → List Row → List ℕ → Type 0
HasSomeNumber least most rows id = (number : ℕ) × HasNumberWithin least most rows id number

-- no moment is given, or one within its limits
abbrev pub HasSomeMoment : List Row → Type 0
HasSomeMoment rows = (at : Option ℕ) × HasMoment rows at

-- the name of the subcommand that prints a sheet
abbrev pub sheet_name : Kind → List ℕ
sheet_name kinds.Roll = codes "roll"
sheet_name kinds.Status = codes "status"
sheet_name kinds.Tally = codes "tally"
sheet_name kinds.Result = codes "result"

-- what `clap` reads of the subcommand that prints a sheet
abbrev pub show_app : Kind → App
show_app kinds.Roll = file_app (codes "roll")
show_app kind = sheet_app (sheet_name kind)

-- the number of the resolution that is given; the roll is of none
abbrev pub HasResolution : List Row → Kind → ℕ → Type 0
HasResolution rows kinds.Roll number = number ≡ 0
HasResolution rows kind number = HasNumberWithin MIN_NUMBER MAX_NUMBER rows (codes "number") number

-- these are the words for a sheet of a resolution
abbrev pub ShowsResolution : List Row → Kind → Line → Type 0
ShowsResolution rows kind (Show file shown number) = (shown ≡ kind) × HasText rows (codes "file") file.now
    × HasNumberWithin MIN_NUMBER MAX_NUMBER rows (codes "number") number
ShowsResolution rows kind line = ⊥

-- the first word is this name
abbrev pub BeginsWith : List ℕ → List (List ℕ) → Type 0
BeginsWith name words = slice_get words 0 ≡ Some name

-- The words ask for this line: the first is the name of its subcommand, and its values are those that `clap` finds in
-- the words, each number within its limits.
abbrev pub AskFor : List (List ℕ) → Line → Type 0
AskFor words (Init file has_sums) = BeginsWith (codes "init") words
    × HasText (matches_of init_app words) (codes "file") file.now
    × HasFlag (matches_of init_app words) (codes "sums") has_sums
AskFor words (Once file at) = BeginsWith (codes "once") words
    × HasText (matches_of once_app words) (codes "file") file.now × HasMoment (matches_of once_app words) at
AskFor words (Serve file port count at) = BeginsWith (codes "serve") words
    × HasText (matches_of serve_app words) (codes "file") file.now
    × HasNumberWithin MIN_PORT MAX_PORT (matches_of serve_app words) (codes "port") port
    × HasNumberWithin MIN_COUNT MAX_COUNT (matches_of serve_app words) (codes "count") count
    × HasMoment (matches_of serve_app words) at
AskFor words (Import file roll at) = BeginsWith (codes "import") words
    × HasText (matches_of import_app words) (codes "file") file.now
    × HasText (matches_of import_app words) (codes "csv") roll.now × HasMoment (matches_of import_app words) at
AskFor words (Show file kind number) = BeginsWith (sheet_name kind) words
    × HasText (matches_of (show_app kind) words) (codes "file") file.now
    × HasResolution (matches_of (show_app kind) words) kind number
AskFor words (Migrate file) = BeginsWith (codes "migrate") words
    × HasText (matches_of (file_app (codes "migrate")) words) (codes "file") file.now

-- ---- where they ask for no line

-- there is no line, and the words are called wrong
abbrev pub IsWrong : NoLine → Type 0
IsWrong (Words text) = ⊤
IsWrong other = ⊥

-- what `clap` reads of the subcommand of a line
abbrev pub app_for : Line → App
app_for (Init file has_sums) = init_app
app_for (Once file at) = once_app
app_for (Serve file port count at) = serve_app
app_for (Import file roll at) = import_app
app_for (Show file kind number) = show_app kind
app_for (Migrate file) = file_app (codes "migrate")

-- The words ask for no line: those that would ask for one are not words that `clap` takes for its subcommand.
abbrev pub AskForNone : List (List ℕ) → Type 0
AskForNone words = (line : Line) → AskFor words line → takes (app_for line) words ≡ false

-- ---- where it asks for help

-- there is no line, and a text of help is shown, or the version
abbrev pub IsHelp : NoLine → Type 0
IsHelp (Help text) = ⊤
IsHelp other = ⊥

-- the subcommands by their names, as `clap` reads them
abbrev pub subcommands : List (List ℕ × App)
subcommands = (codes "init", init_app) ∷ (codes "once", once_app) ∷ (codes "serve", serve_app)
    ∷ (codes "import", import_app) ∷ (codes "roll", file_app (codes "roll"))
    ∷ (codes "status", sheet_app (codes "status"))
    ∷ (codes "tally", sheet_app (codes "tally"))
    ∷ (codes "result", sheet_app (codes "result"))
    ∷ (codes "migrate", file_app (codes "migrate")) ∷ []

-- the words of this subcommand ask for its help, or for a version, as `clap` finds
abbrev pub AsksItsHelp : App → List (List ℕ) → Type 0
AsksItsHelp app words = IsAmong DisplayHelp (fault_of app words) ⊎ IsAmong DisplayVersion (fault_of app words)

-- The words ask for help: the first is the name of a subcommand, and they ask for its help; or the first begins with a
-- dash, so that it is no name of one.
abbrev pub AskForHelp : List (List ℕ) → Type 0
AskForHelp words =
    ((i : ℕ) × (name : List ℕ) × (app : App) × (slice_get subcommands i ≡ Some (name, app)) × BeginsWith name words
    × AsksItsHelp app words)
    ⊎ ((word : List ℕ) × BeginsWith word words × IsTrue (starts_with eqb word (codes "-")))

-- ---- where they ask for the version

-- what is printed then: the version of the program, that of the files that it keeps, and the toolchain's line
abbrev pub version : List ℕ
version = codes "gr_desk 1.0.0\nschema 2\nrattle-kit-13b logic dac8208d650f15bf\n"

-- The words ask for the version, whatever stands after the first one. It begins with a dash, as a word for help does.
abbrev pub AskForVersion : List (List ℕ) → Type 0
AskForVersion words = BeginsWith (codes "--version") words

-- there is no line, and the version is shown, or memory ran out for it
abbrev pub TellsVersion : NoLine → Type 0
TellsVersion (Help text) = string_bytes text ≡ version
TellsVersion (Words text) = ⊥
TellsVersion Memory = ⊤
