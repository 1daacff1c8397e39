-- What `clap` finds in words that it takes for a subcommand: a text for each required argument, and numbers within their
-- limits.
use Rattle.std.proofs.Common.{◌≡◌, ◌∙◌, ◌<◌, ◌≤◌, ℕ, zero, suc, Bool, true, false, not, ◌&&◌, List, [], ◌∷◌, ◌++◌, map, length, slice_index_or, Option, Some, None, is_some, refl, sym, ap, subst, inl, inr, arith}
use Rattle.std.specs.Prelude.{◌==◌, codes, cond, drop, option_map, option_and_then, pos, slice_get, unwrap_or}
use Rattle.std.specs.Borrow.{Bor}
use Rattle.std.specs.List.{All, list_all}
use Rattle.std.specs.Str.{bytes_eq}
use Rattle.std.specs.Str.Parse.{IsNumeral, digits_value, starts_with_minus, without_leading_plus}
use Rattle.std.proofs.lemmas.Bool.{false≢true, ne_eqb}
use Rattle.std.proofs.lemmas.Int.{ints}
use Rattle.std.proofs.lemmas.Option.{none-some, same_Some}
use Rattle.std.proofs.lemmas.Slice.Eq.{bytes_eq-Decides}
use Rattle.std.proofs.lemmas.Str.Parse.{digit_from_value}
use Rattle.clap.specs.Built.{AddsSubcommand, IsAuto, IsParsedFrom, IsPlain}
use Rattle.clap.specs.Facts.{unwrap_or_range, Entry, EntryPasses, args_of, groups_of, HasReading, least_values, parser_of_value, PassesArg}
use Rattle.clap.specs.Faults.{has_free_rules}
use Rattle.clap.specs.Lexer.{without_minus}
use Rattle.clap.specs.Matches.{first_value, found_of, matched_of}
use Rattle.clap.specs.Simple.{App, IsSimple, Shape, app_of, is_ready, is_ready_leaf, shape_of}
use Rattle.clap.specs.Values.{Accepts, IsSignedIn, read_as, reading_of}
use Rattle.clap.specs.Walk.{Rule, Text, first_of, one_of, rows_of, rule_of}
use Rattle.clap.specs.declared.builder.action.ArgAction.TheVariants.{Set}
use Rattle.clap.specs.declared.builder.arg.Arg.{Arg}
use Rattle.clap.specs.declared.builder.command.Command.{Command}
use Rattle.clap.specs.declared.builder.command.Command.TheViews.{out-Command}
use Rattle.clap.specs.declared.builder.value_parser.Reading.{Reading}
use Rattle.clap.specs.declared.builder.value_parser.ValueParser.{ValueParser}
use Rattle.clap.specs.declared.parser.matches.ArgMatches.{ArgMatches}
use Rattle.clap.specs.declared.parser.matches.Found.{Found}
use Rattle.clap.specs.declared.parser.matches.MatchedArg.{MatchedArg}
use Rattle.clap.proofs.CallerLemmas.{entry_by_id, required_has_value, same_rules_by_id}
use Rattle.clap.proofs.FaultLemmas.{free_args}
use Rattle.clap.proofs.SimpleLemmas.{plain_fields, ready_simple, simple_groups}
use Rattle.clap.proofs.WalkLemmas.{both, first_value-rows, one_text-rows}
use Rattle.gr_desk.specs.Words.{IsDecimal}

-- ==== a command that is ready, whose arguments have no rule on one another

abbrev pub rules_are_plain : App → Bool
rules_are_plain app =
    is_ready app.top && (has_free_rules app.top && (list_all is_ready_leaf app.subs
    && not app.top.subcommand_negates_reqs))

pub record IsRead (c : Command) (app : App) : Type 0 where
  pub rules : map rule_of (args_of c) ≡ app.top.rules
  pub simple : IsSimple c
  pub plain : IsPlain c
  pub negates : (out-Command c).subcommand_negates_reqs ≡ false

not_true : (b : Bool) → not b ≡ true → b ≡ false
not_true true is = absurd (false≢true is)
not_true false is = refl

pub read_as_app : (c : Command) (app : App) → app_of c ≡ app → rules_are_plain app ≡ true → IsRead c app
read_as_app c app same plain =
    let of_command = ap rules_are_plain same ∙ plain in
    let (ready, others) = both (is_ready (shape_of c)) _ of_command in
    let (free, rest) = both (has_free_rules (shape_of c)) _ others in
    let (leaves, negates) = both (list_all is_ready_leaf (app_of c).subs) _ rest in
    let simple = ready_simple c ready leaves in
    let are_free = free_args c simple free in
    let groups = simple_groups c (both _ _ (both _ _ ready).0).1 in
    record {
      rules = ap (λ a. a.top.rules) same;
      simple = simple;
      plain = (
        λ k d inside. (
          (are_free k d inside).exclusive,
          (are_free k d inside).conflicts,
          (are_free k d inside).overrides,
          groups k d inside,
        ),
        simple.groups,
      );
      negates = not_true _ negates;
    }

-- ==== an argument of it, by its rule

-- the argument at the place of a rule
rule_at : (args : List Arg) (place : ℕ) (rule : Rule) → slice_get (map rule_of args) place ≡ Some rule
    → (arg : Arg) × (place < length args) × (rule_of (slice_index_or args place arg) ≡ rule)
rule_at [] place rule there = absurd cc
rule_at (arg ∷ args) zero rule there = (arg, omega arith, same_Some _ _ there)
rule_at (arg ∷ args) (suc place) rule there =
    let (found, inside, is) = rule_at args place rule there in
    (found, omega (arith, inside), is)

-- no rule but the one at this place has this id
abbrev no_other : List Rule → Text → Bool
no_other [] id = true
no_other (rule ∷ rules) id = not (bytes_eq rule.id id) && no_other rules id

abbrev pub only_at : List Rule → Text → ℕ → Bool
only_at [] id place = true
only_at (rule ∷ rules) id zero = no_other rules id
only_at (rule ∷ rules) id (suc place) = not (bytes_eq rule.id id) && only_at rules id place

none_has : (args : List Arg) (id : Text) → no_other (map rule_of args) id ≡ true → (j : ℕ) (arg : Arg) → j < length args
    → ¬ (bytes_eq (slice_index_or args j arg).id.now id ≡ true)
none_has [] id none j arg inside is = omega arith
none_has (first ∷ args) id none zero arg inside is = false≢true (sym (not_true _ (both _ _ none).0) ∙ is)
none_has (first ∷ args) id none (suc j) arg inside is = none_has args id (both _ _ none).1 j arg (omega arith) is

one_has : (args : List Arg) (id : Text) (place : ℕ) → only_at (map rule_of args) id place ≡ true → (j : ℕ) (arg : Arg)
    → j < length args → bytes_eq (slice_index_or args j arg).id.now id ≡ true → j ≡ place
one_has [] id place only j arg inside is = absurd (omega arith)
one_has (first ∷ args) id zero only zero arg inside is = refl
one_has (first ∷ args) id zero only (suc j) arg inside is = absurd (none_has args id only j arg (omega arith) is)
one_has (first ∷ args) id (suc place) only zero arg inside is =
    absurd (false≢true (sym (not_true _ (both _ _ only).0) ∙ is))
one_has (first ∷ args) id (suc place) only (suc j) arg inside is =
    ap suc (one_has args id place (both _ _ only).1 j arg (omega arith) is)

-- an id that is empty is none, and `clap` adds arguments with these two
abbrev pub is_own : Text → Bool
is_own id = not (bytes_eq id []) && (not (bytes_eq id (codes "help")) && not (bytes_eq id (codes "version")))

-- the rule of an argument of the subcommand, whose id is its own
pub record IsRuleAt (app : App) (place : ℕ) (rule : Rule) : Type 0 where
  pub there : slice_get app.top.rules place ≡ Some rule
  pub only : only_at app.top.rules rule.id place ≡ true
  pub own : is_own rule.id ≡ true

-- the first value of a match, as it stands and as it is read
abbrev first_text : Option MatchedArg → Option Text
first_text = option_and_then (λ match. option_map (λ value. value.now) (slice_get match.vals.items 0))

abbrev first_read : Option MatchedArg → Option Text
first_read =
    option_and_then (λ match. option_map (λ value. read_as match.reading value.now) (slice_get match.vals.items 0))

module _ (c : Command) (app : App) (read : IsRead c app) (m : ArgMatches) (parsed : IsParsedFrom c m) (place : ℕ)
    (rule : Rule) (of : IsRuleAt app place rule) where
  abbrev found : Found
  found = found_of m

  abbrev here : (arg : Arg) × (place < length (args_of c)) × (rule_of (slice_index_or (args_of c) place arg) ≡ rule)
  here = rule_at (args_of c) place rule (ap (λ rules. slice_get rules place) read.rules ∙ of.there)

  abbrev argument : Arg
  argument = slice_index_or (args_of c) place here.0

  has_rule : rule_of argument ≡ rule
  has_rule = here.2

  has_id : argument.id.now ≡ rule.id
  has_id = ap (λ r. r.id) has_rule

  unique : (j : ℕ) (arg : Arg) → j < length (args_of c)
      → bytes_eq (slice_index_or (args_of c) j arg).id.now argument.id.now ≡ true → j ≡ place
  unique j arg inside is =
      one_has (args_of c) rule.id place (ap (λ rules. only_at rules rule.id place) read.rules ∙ of.only) j arg inside
      (subst (λ id. bytes_eq (slice_index_or (args_of c) j arg).id.now id ≡ true) has_id is)

  differs : (id : Text) → not (bytes_eq rule.id id) ≡ true → ¬ (argument.id.now ≡ id)
  differs id apart is =
      false≢true (sym (not_true _ apart) ∙ (bytes_eq-Decides rule.id id).1 (sym has_id ∙ is))

  named : ¬ (argument.id.now ≡ [])
  named = differs [] (both _ _ of.own).0

  not_added : ¬ (IsAuto argument)
  not_added auto = elim auto [
    | inl help ↦ differs (codes "help") (both _ _ (both _ _ of.own).1).0 help
    | inr version ↦ differs (codes "version") (both _ _ (both _ _ of.own).1).1 version
  ]

  -- a required argument has a text
  pub text_found : rule.required ≡ true → rule.action ≡ Some Set → rule.range ≡ None
      → (text : Text) × (first_of rule.id (rows_of found) ≡ Some text)
  text_found required set range =
      let one : 1 ≤ least_values argument =
      subst (λ r. 1 ≤ (unwrap_or_range r).start_inclusive) (sym (ap (λ r. r.range) has_rule ∙ range)) (omega arith) in
      let has = required_has_value c m parsed read.plain (read.simple.globals) read.negates place here.0 here.1
      (ap (λ r. r.required) has_rule ∙ required) (ap (λ r. r.action) has_rule ∙ set)
      (read.simple.args place here.0 here.1).delimiter one unique named not_added in
      let (text, is) = some_text (first_value found argument.id.now) has in
      (text, ap (λ id. first_of id (rows_of found)) (sym has_id) ∙ sym (first_value-rows found argument.id.now) ∙ is)
    where
      some_text : (value : Option Text) → is_some value ≡ true → (text : Text) × (value ≡ Some text)
      some_text (Some text) has = (text, refl)
      some_text None has = absurd (false≢true has)

  -- and a text that an argument has, required or not, passed its parser, by which it is read
  pub text_passed : (text : Text) → first_of rule.id (rows_of found) ≡ Some text
      → (parser : ValueParser) → rule.parser ≡ Some parser → rule.ignore_case ≡ false
      → Accepts false parser text × (one_of rule.id (rows_of found) ≡ Some (read_as (reading_of parser) text))
  text_passed text is parser by exact =
      of_match (matched_of found rule.id) refl (first_value-rows found rule.id ∙ is)
    where
      is_parser : argument.value_parser ≡ Some parser
      is_parser = ap (λ r. r.parser) has_rule ∙ by

      is_exact : argument.ignore_case ≡ false
      is_exact = ap (λ r. r.ignore_case) has_rule ∙ exact

      -- an argument of the command as it was built, with the id of this one, has its rule
      passes : (id value : Text) → id ≡ rule.id → PassesArg parsed.built id value → Accepts false parser value
      passes id value same (j, arg, inside, at, (has, accepts)) =
          let rules = same_rules_by_id c m parsed place here.0 here.1 unique not_added j arg inside at
          (subst (λ i. bytes_eq arg.id.now i ≡ true) (same ∙ sym has_id) has) in
          subst (λ exact. Accepts exact parser value) (rules.ignore_case ∙ is_exact)
          (subst (λ p. Accepts arg.ignore_case p value) (ap parser_of_value (rules.parser parser is_parser)) accepts)

      reads : (id : Text) (how : Reading) → id ≡ rule.id → HasReading parsed.built id how → how ≡ reading_of parser
      reads id how same (j, arg, inside, at, (has, is)) =
          let rules = same_rules_by_id c m parsed place here.0 here.1 unique not_added j arg inside at
          (subst (λ i. bytes_eq arg.id.now i ≡ true) (same ∙ sym has_id) has) in
          sym is ∙ ap reading_of (ap parser_of_value (rules.parser parser is_parser))

      first_passes : (id : Text) (values : List (Bor Text)) → id ≡ rule.id
          → All (λ value. PassesArg parsed.built id value.now) values
          → option_map (λ value. value.now) (slice_get values 0) ≡ Some text → Accepts false parser text
      first_passes id [] same all is = absurd (none-some text is)
      first_passes id (value ∷ values) same all is =
          subst (Accepts false parser) (same_Some _ _ is) (passes id value.now same (all 0 value (omega arith)))

      first_reads : (how : Reading) (values : List (Bor Text)) → how ≡ reading_of parser
          → option_map (λ value. value.now) (slice_get values 0) ≡ Some text
          → option_map (λ value. read_as how value.now) (slice_get values 0) ≡ Some (read_as (reading_of parser) text)
      first_reads how [] same is = absurd (none-some text is)
      first_reads how (value ∷ values) same is = λ i. Some (read_as (same i) (same_Some _ _ is i))

      of_entry : (entry : Entry) (match : MatchedArg) → entry.1 ≡ match → bytes_eq entry.0.now rule.id ≡ true
          → EntryPasses parsed.built entry → option_map (λ value. value.now) (slice_get match.vals.items 0) ≡ Some text
          → Accepts false parser text
          × (option_map (λ value. read_as match.reading value.now) (slice_get match.vals.items 0)
          ≡ Some (read_as (reading_of parser) text))
      of_entry entry match same key (values, filled, counts, group, reading) is =
          let is_id : entry.0.now ≡ rule.id = (bytes_eq-Decides entry.0.now rule.id).0 key in
          let none : groups_of parsed.built ≡ [] = (parsed.from.plain read.plain).1 in
          let no_group : ¬ (entry.1.is_group ≡ true) = λ is_group. elim (group is_group) [
            | inl empty ↦ named (has_id ∙ sym is_id ∙ empty)
            | inr some ↦
                let never : 0 < 0 = subst (λ groups. 0 < length groups) none some in
                omega (arith, never)
          ] in
          let first = subst (λ m. option_map (λ value. value.now) (slice_get m.vals.items 0) ≡ Some text) (sym same) is in
          let accepts : Accepts false parser text = elim values [
            | inl is_group ↦ absurd (no_group is_group)
            | inr all ↦ first_passes entry.0.now entry.1.vals.items is_id all first
          ] in
          let how : entry.1.reading ≡ reading_of parser = elim reading [
            | inl is_group ↦ absurd (no_group is_group)
            | inr has ↦ reads entry.0.now entry.1.reading is_id has
          ] in (
            accepts,
            first_reads match.reading match.vals.items (ap (λ m. m.reading) (sym same) ∙ how) is,
          )

      of_match : (match : Option MatchedArg) → matched_of found rule.id ≡ match → first_value found rule.id ≡ Some text
          → Accepts false parser text × (one_of rule.id (rows_of found) ≡ Some (read_as (reading_of parser) text))
      of_match None none has = absurd (none-some text (sym (ap first_text none) ∙ has))
      of_match (Some match) is has =
          let all = (parsed.parsed (parsed.from.globals ∙ read.simple.globals)).values in
          let (entry, same, key, pass) = entry_by_id (EntryPasses parsed.built) found.entries.items rule.id match all is in
          let (accepts, read_is) = of_entry entry match same key pass (sym (ap first_text is) ∙ has) in
          (accepts, sym (one_text-rows found rule.id) ∙ ap first_read is ∙ read_is)

-- ==== a word that passed limits

-- a text without its minus sign, if it has one
minus_off : (text : List ℕ) → without_minus text ≡ cond (starts_with_minus text) (drop 1 text) text
minus_off [] = refl
minus_off (character ∷ characters) = by (character == 45)
  where
    by : (is_minus : Bool)
        → unwrap_or (cond is_minus (Some characters) None) (character ∷ characters)
        ≡ cond is_minus characters (character ∷ characters)
    by true = refl
    by false = refl

-- digits have no plus sign in front
plus_off : (digits : List ℕ) → IsNumeral 10 digits → without_leading_plus digits ≡ digits
plus_off [] numeral = refl
plus_off (digit ∷ digits) numeral =
    let none : (digit == 43) ≡ false = ne_eqb _ _ (λ plus. omega (arith, digit_from_value digit numeral.1.0)) in
    ap (λ is_plus. drop (cond is_plus 1 0) (digit ∷ digits)) none

-- it is a number between them, as it is read
pub decimal_passed : (least most : ℕ) (text : List ℕ) → IsSignedIn (pos least) (pos most) text
    → (number : ℕ) × IsDecimal (without_minus text) number × (least ≤ number) × (number ≤ most)
decimal_passed least most text (numeral, fits, low, high) = by (starts_with_minus text) refl
  where
    by : (is_minus : Bool) → starts_with_minus text ≡ is_minus
        → (number : ℕ) × IsDecimal (without_minus text) number × (least ≤ number) × (number ≤ most)
    by true minus =
        let digits : IsNumeral 10 (drop 1 text) = rw minus at numeral in
        let same : without_minus text ≡ drop 1 text = minus_off text ∙ ap (λ b. cond b (drop 1 text) text) minus in
        let above = rw minus at low in
        let plain = plus_off (drop 1 text) digits in
        let value = digits_value 10 (drop 1 text) in (
          value,
          subst (λ t. IsDecimal t value) (sym same)
              (subst (λ d. IsNumeral 10 d × (digits_value 10 d ≡ value)) (sym plain) (digits, refl)),
          omega (arith, ints),
          omega (arith, ints),
        )
    by false plain =
        let same : without_minus text ≡ text = minus_off text ∙ ap (λ b. cond b (drop 1 text) text) plain in
        let above = rw plain at low in
        let below = rw plain at high in
        let digits = rw plain at numeral in
        let value = digits_value 10 (without_leading_plus text) in (
          value,
          subst (λ t. IsDecimal t value) (sym same) (digits, refl),
          omega (arith, ints),
          omega (arith, ints),
        )

-- ==== the subcommands of a command

-- a command to which one is added that is plain has the shape of that one at its end
pub one_more : (old sub new : Command) (app : App) (shapes : List Shape) → AddsSubcommand old sub new → app_of sub ≡ app
    → app.top.is_plain ≡ true → (app_of old).subs ≡ shapes → (app_of new).subs ≡ shapes ++ app.top ∷ []
one_more old sub new app shapes added same plain before =
    let local = (plain_fields sub (ap (λ a. a.top.is_plain) same ∙ plain)).globals in
    ap (λ a. a.subs) (added.shape local) ∙ (λ i. before i ++ (same i).top ∷ [])
