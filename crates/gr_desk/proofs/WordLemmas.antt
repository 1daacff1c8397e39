-- What words ask for, what `clap` finds of a number, and how words are answered.
use Rattle.std.proofs.Common.{◌≡◌, ◌∙◌, ◌<◌, ◌^◌, ℕ, Bool, true, false, ap, subst, List, Option, Some, None, Result, Ok, Err, inl, inr, refl, string_bytes, sym, arith}
use Rattle.std.specs.Str.Parse.{ParsesUnsigned}
use Rattle.clap.specs.Matches.{ReadsOne}
use Rattle.std.specs.Prelude.{⊤, IfErr, IsSome, OnOk, slice_get}
use Rattle.std.specs.Io.KnownBytes.{Appends}
use Rattle.clap.specs.Simple.{App}
use Rattle.clap.specs.Walk.{Row, one_of}
use Rattle.gr_http.specs.Streams.{AppendsBeginning}
use Rattle.gr_desk.specs.declared.failure.Failure.{Failure}
use Rattle.gr_desk.specs.declared.failure.Failure.TheVariants as failures
use Rattle.gr_desk.specs.declared.line.NoLine.{NoLine}
use Rattle.gr_desk.specs.declared.line.NoLine.TheVariants.{Help, Memory, Words}
use Rattle.gr_desk.specs.Program.{EndsBy, RepliesTo, Shows, Tells}
use Rattle.gr_desk.specs.Words.{AskForHelp, AskForNone, AskForVersion, AsksItsHelp, BeginsWith, HasNumberWithin, IsDecimal, IsHelp, IsWrong, TellsVersion, subcommands}

-- a text that is read as a number is its decimal
pub decimal_read : {E : Type 0} (G : List ℕ → Result ℕ E → Type 0)
    → ((t : List ℕ) (x : Result ℕ E) → G t x → ParsesUnsigned 64 10 t x) → (o : Option (List ℕ)) (n : ℕ)
    → (o ≡ None → Some n ≡ None) → ((t : List ℕ) → o ≡ Some t → ReadsOne G t (Some n))
    → (t : List ℕ) × (o ≡ Some t) × IsDecimal t n
decimal_read G only None n none value = absurd (let never : Some n ≡ None = none refl in cc)
decimal_read G only (Some t) n none value =
    let parsed = only t (Ok n) (value t refl) in (t, refl, (parsed.0.0, sym parsed.1))

-- a decimal that fits is read as its number
pub read_decimal : {E : Type 0} (G : List ℕ → Result ℕ E → Type 0)
    → ((t : List ℕ) (x : Result ℕ E) → G t x → ParsesUnsigned 64 10 t x) → (o : Option (List ℕ)) (r : Option ℕ)
    → ((t : List ℕ) → o ≡ Some t → ReadsOne G t r) → (t : List ℕ) (n : ℕ) → o ≡ Some t → IsDecimal t n → n < 2 ^ 64
    → r ≡ Some n
read_decimal G only o None value t n is decimal fits =
    let (e, given) = value t is in
    absurd (only t (Err e) given (decimal.0, subst (λ v. v < 2 ^ 64) (sym decimal.1) fits))
read_decimal G only o (Some v) value t n is decimal fits =
    let parsed = only t (Ok v) (value t is) in ap Some (parsed.1 ∙ decimal.1)

-- so is one that is found within its limits
pub reads_within : {E : Type 0} (G : List ℕ → Result ℕ E → Type 0)
    → ((t : List ℕ) (x : Result ℕ E) → G t x → ParsesUnsigned 64 10 t x) → (o : Option (List ℕ)) (r : Option ℕ)
    → ((t : List ℕ) → o ≡ Some t → ReadsOne G t r) → (rows : List Row) (id : List ℕ) → o ≡ one_of id rows
    → (least most n : ℕ) → most < 2 ^ 64 → HasNumberWithin least most rows id n → r ≡ Some n
reads_within G only o r value rows id same least most n fits ((text, is, decimal), low, high) =
    read_decimal G only o r value text n (same ∙ is) decimal (omega (arith, high, fits))

-- what is never true is false
pub is_false : (b : Bool) → ¬ (b ≡ true) → b ≡ false
is_false true never = absurd (never refl)
is_false false never = refl

-- words that ask for the help of their subcommand ask for help
pub help_of : {T : Type 0} (r : Result T NoLine) (i : ℕ) (name : List ℕ) (app : App) (words : List (List ℕ))
    → slice_get subcommands i ≡ Some (name, app) → BeginsWith name words
    → IfErr r (λ e. IsHelp e → AsksItsHelp app words) → IfErr r (λ e. IsHelp e → AskForHelp words)
help_of (Ok x) i name app words is begins helps = tt
help_of (Err e) i name app words is begins helps = λ help. inl (i, name, app, is, begins, helps help)

-- a text was printed, and the line ends so
pub shown : (text : List ℕ) (old new : Option (List ℕ)) (done : Result ⊤ Failure) (status : ℕ) (said : Option (List ℕ))
    → OnOk done (Appends old new text)
    → IfErr done (λ failure. (failure ≡ failures.Lost) × AppendsBeginning old new text)
    → EndsBy done status said → Shows text old new status said
shown text old new (Ok done) status said whole lost ends = inl (whole, ends)
shown text old new (Err failure) status said whole (is, begun) ends =
    inr (begun, subst (λ failure. EndsBy {T = ⊤} (Err failure) status said) is ends)

-- what is told of no line is an answer to the words for which there is none
pub replies : (no_line : NoLine) (words : List (List ℕ)) (old new : Option (List ℕ)) (status : ℕ) (said : Option (List ℕ))
    → (IsHelp no_line → AskForHelp words) → (AskForVersion words → TellsVersion no_line)
    → (IsWrong no_line → AskForNone words) → Tells no_line old new status said
    → RepliesTo words old new status said
replies (Help text) words old new status said help version wrong told = inl (help tt, string_bytes text, version, told)
replies (Words text) words old new status said help version wrong told =
    inr (inl (told.0, wrong tt, version, subst IsSome (sym told.1) refl, told.2))
replies Memory words old new status said help version wrong told = inr (inr told)
