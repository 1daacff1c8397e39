-- What a reader of records has left, from one record to the next.
use Rattle.std.proofs.Common.{◌≡◌, ℕ, zero, suc, ◌+◌, ◌<◌, ◌≤◌, Bool, true, false, ◌==◌, ◌&&◌, if◌then◌else◌, List, [], ◌∷◌, length, Option, Some, None, Result, Ok, Err, IfOk, Bor, refl, ◌∙◌, ap, subst, arith, add-one}
use Rattle.std.specs.Result.{is_ok}
use Rattle.csv.specs.Machine.{Read, after_end, ends_at_end, ends_with, in_field, is_byte, is_end, line_feed, next_record, start_field, start_record, step}
use Rattle.csv.specs.Reading.{NextIs, ReadRecord, ReadsNext, ReadsOn, default_config, pending_of, records_from, records_next}
use Rattle.csv.specs.declared.parser.Action.{Action}
use Rattle.csv.specs.declared.parser.Action.TheVariants as act
use Rattle.csv.specs.declared.parser.Config.{Config}
use Rattle.csv.specs.declared.parser.State.{State}
use Rattle.csv.specs.declared.parser.State.TheVariants as st
use Rattle.csv.specs.declared.parser.Terminator.{Terminator}
use Rattle.csv.specs.declared.parser.Terminator.TheVariants as term
use Rattle.csv.specs.declared.reader.Reader.{Reader}
use Rattle.gr_http.specs.Records.{IsBetweenRecords, ReadsRecord, records_left, unread, unread_of}

-- a step that ends a record ends between records
record EndsBetween (next : State × Action) : Type 0 where
  between : is_end next.1 ≡ true → ends_at_end next.0 ≡ false

if-ends : (b : Bool) (p q : State × Action) → EndsBetween p → EndsBetween q → EndsBetween (if b then p else q)
if-ends true p q here there = here
if-ends false p q here there = there

skip-ends : (s : State) → EndsBetween (s, act.Skip)
skip-ends s = record { between = λ e. cc e }

copy-ends : (s : State) → EndsBetween (s, act.Copy)
copy-ends s = record { between = λ e. cc e }

field-ends : (s : State) → EndsBetween (s, act.EndField)
field-ends s = record { between = λ e. cc e }

last-ends : (s : State) → ends_at_end s ≡ false → EndsBetween (s, act.EndRecord)
last-ends s between = record { between = λ e. between }

line-ends : (b : Bool) → ends_at_end (if b then st.AfterCr else st.StartRecord) ≡ false
line-ends true = refl
line-ends false = refl

after_end-between : (t : Terminator) (c : ℕ) → ends_at_end (after_end t c) ≡ false
after_end-between term.CRLF c = line-ends _
after_end-between (term.Any b) c = refl

in_field-ends : (cfg : Config) (c : ℕ) → EndsBetween (in_field cfg c)
in_field-ends cfg c =
    if-ends (c == cfg.delimiter) _ _ (field-ends st.StartField)
    (if-ends (ends_with cfg.terminator c) _ _ (last-ends _ (after_end-between cfg.terminator c)) (copy-ends st.InField))

start_field-ends : (cfg : Config) (c : ℕ) → EndsBetween (start_field cfg c)
start_field-ends cfg c =
    if-ends (cfg.quoting && (c == cfg.quote)) _ _ (skip-ends st.InQuoted) (in_field-ends cfg c)

start_record-ends : (cfg : Config) (c : ℕ) → EndsBetween (start_record cfg c)
start_record-ends cfg c =
    if-ends (ends_with cfg.terminator c) _ _ (skip-ends st.StartRecord)
    (if-ends (is_byte cfg.comment c) _ _ (skip-ends st.InComment) (start_field-ends cfg c))

step-ends : (cfg : Config) (s : State) (c : ℕ) → EndsBetween (step cfg s c)
step-ends cfg st.StartRecord c = start_record-ends cfg c
step-ends cfg st.StartField c = start_field-ends cfg c
step-ends cfg st.InField c = in_field-ends cfg c
step-ends cfg st.InQuoted c =
    if-ends (cfg.quoting && (c == cfg.quote)) _ _ (skip-ends st.AfterQuote)
    (if-ends (cfg.quoting && is_byte cfg.escape c) _ _ (skip-ends st.InEscape) (copy-ends st.InQuoted))
step-ends cfg st.InEscape c = copy-ends st.InQuoted
step-ends cfg st.AfterQuote c =
    if-ends (cfg.quoting && cfg.double_quote && (c == cfg.quote)) _ _ (copy-ends st.InQuoted) (in_field-ends cfg c)
step-ends cfg st.InComment c = if-ends (c == line_feed) _ _ (skip-ends st.StartRecord) (skip-ends st.InComment)
step-ends cfg st.AfterCr c = if-ends (c == line_feed) _ _ (skip-ends st.StartRecord) (start_record-ends cfg c)

-- a read that ends between records, with at most so many bytes after it
abbrev EndsBefore : ℕ → Read → Type 0
EndsBefore size p = (ends_at_end p.1 ≡ false) × (length p.2 ≤ size)

last-before : (b : Bool) (fields : List (List ℕ)) (p : Read)
    → (if b then Some (fields, st.StartRecord, []) else None) ≡ Some p → EndsBefore 0 p
last-before true fields p e =
    let whole : (fields, st.StartRecord, []) ≡ p = cc in
    subst (EndsBefore 0) whole (refl, omega arith)
last-before false fields p e = cc e

step-before : (b : Bool) (s : State) (fields : List (List ℕ)) (rest : List ℕ) (more : Option Read) (p : Read)
    → (b ≡ true → ends_at_end s ≡ false) → (more ≡ Some p → EndsBefore (length rest) p)
    → (if b then Some (fields, s, rest) else more) ≡ Some p → EndsBefore (length rest) p
step-before true s fields rest more p ends later e =
    let whole : (fields, s, rest) ≡ p = cc in
    subst (EndsBefore (length rest)) whole (ends refl, omega arith)
step-before false s fields rest more p ends later e = later e

next-before : (cfg : Config) (s : State) (fields : List (List ℕ)) (field xs : List ℕ) (p : Read)
    → next_record cfg s fields field xs ≡ Some p → EndsBefore (length xs) p
unfolding next_record
next-before cfg s fields field [] p e = last-before (ends_at_end s) _ p e
next-before cfg s fields field (c ∷ rest) p e =
    let before = step-before (is_end (step cfg s c).1) _ _ rest _ p (step-ends cfg s c).between
    (next-before cfg (step cfg s c).0 _ _ rest p) e in
    (before.0, omega arith)

-- from between records a read takes at least a byte
abbrev Advances : ℕ → Read → Type 0
Advances size p = (ends_at_end p.1 ≡ false) × (length p.2 < size)

next-advances : (cfg : Config) (s : State) (xs : List ℕ) (p : Read)
    → ends_at_end s ≡ false → next_record cfg s [] [] xs ≡ Some p → Advances (length xs) p
unfolding next_record
next-advances cfg s [] p between e = cc (rw between at e)
next-advances cfg s (c ∷ rest) p between e =
    let before = step-before (is_end (step cfg s c).1) _ _ rest _ p (step-ends cfg s c).between
    (next-before cfg (step cfg s c).0 _ _ rest p) e in
    (before.0, omega arith)

-- any number above that of the bytes asks for all records
records-all : (cfg : Config) (n m : ℕ) (s : State) (xs : List ℕ) → ends_at_end s ≡ false
    → length xs < n → length xs < m → records_from cfg n s xs ≡ records_from cfg m s xs
unfolding records_from
records-all cfg zero m s xs between below above = absurd (omega arith)
records-all cfg (suc n) zero s xs between below above = absurd (omega arith)
records-all cfg (suc n) (suc m) s xs between below above = by (next_record cfg s [] [] xs) refl (records-all cfg n m)
  where
    by : (o : Option Read) → next_record cfg s [] [] xs ≡ o
        → ((s2 : State) (ys : List ℕ) → ends_at_end s2 ≡ false → length ys < n → length ys < m
        → records_from cfg n s2 ys ≡ records_from cfg m s2 ys)
        → records_next (records_from cfg n) o ≡ records_next (records_from cfg m) o
    by None e more = refl
    by (Some p) e more =
        let next = next-advances cfg s xs p between e in
        ap (λ rows. p.0 ∷ rows) (more p.1 p.2 next.0 (omega arith) (omega arith))

-- all records of bytes: the next one and all records after it, or none
abbrev all_from : State → List ℕ → List (List (List ℕ))
all_from s xs = records_from default_config (length xs + 1) s xs

all-some : (s : State) (xs : List ℕ) (p : Read) → ends_at_end s ≡ false
    → next_record default_config s [] [] xs ≡ Some p → all_from s xs ≡ p.0 ∷ all_from p.1 p.2
unfolding records_from
all-some s xs p between e =
    let next = next-advances default_config s xs p between e in
    let later = records-all default_config (length xs) (length p.2 + 1) p.1 p.2 next.0 next.1 (omega arith) in
    rw (add-one (length xs), e) (ap (λ rows. p.0 ∷ rows) later)

all-none : (s : State) (xs : List ℕ) → next_record default_config s [] [] xs ≡ None → all_from s xs ≡ []
unfolding records_from
all-none s xs e = rw (add-one (length xs), e) refl

-- what a read shows of the record that it took, and that there is none
next-some : (o : Option Read) (fields : List (List ℕ)) (s : State) (left : List ℕ) → NextIs o true fields s left
    → (p : Read) × (o ≡ Some p) × (fields ≡ p.0) × (s ≡ p.1) × (left ≡ p.2)
next-some None fields s left shown = cc shown
next-some (Some p) fields s left shown = (p, refl, shown.1, shown.2, shown.3)

next-none : (o : Option Read) (fields : List (List ℕ)) (s : State) (left : List ℕ) → NextIs o false fields s left
    → o ≡ None
next-none None fields s left shown = refl
next-none (Some p) fields s left shown = cc shown.0

-- what a read of a record leaves
pub record Took (before after : Reader (Bor (List ℕ))) (fields : List (List ℕ)) : Type 0 where
  pub going : unread_of after ≡ Some (unread after)
  pub between : ends_at_end after.state ≡ false
  pub shorter : length (unread after) < length (unread before)
  pub takes : records_left before ≡ fields ∷ records_left after

took-read : (before after : Reader (Bor (List ℕ))) (fields : List (List ℕ)) (p : Read) → IsBetweenRecords before
    → next_record default_config before.state [] [] (unread before) ≡ Some p
    → fields ≡ p.0 → after.state ≡ p.1 → unread_of after ≡ Some p.2 → Took before after fields
took-read before after fields p is reads same_fields same_state same_bytes =
    let advances = next-advances default_config before.state (unread before) p is.between reads in
    let bytes : unread after ≡ p.2 = rw same_bytes refl in
    record {
      going = rw same_bytes refl;
      between = rw same_state advances.0;
      shorter = rw bytes advances.1;
      takes = rw (bytes, same_state, same_fields) (all-some before.state (unread before) p is.between reads);
    }

took-known : (before after : Reader (Bor (List ℕ))) (fields : List (List ℕ)) (known : Option (List ℕ))
    → IsBetweenRecords before → unread_of after ≡ known
    → ReadsNext default_config before.state (Some (unread before)) known true fields after.state
    → Took before after fields
took-known before after fields None is same reads = absurd reads
took-known before after fields (Some left) is same reads =
    let next = next-some _ fields after.state left reads in
    took-read before after fields next.0 is next.1 next.2 next.3 (same ∙ ap Some next.4)

took : (before after : Reader (Bor (List ℕ))) (fields : List (List ℕ)) → IsBetweenRecords before
    → ReadRecord (λ bytes. Some bytes.now) before after true fields → Took before after fields
took before after fields is reads =
    took-known before after fields (pending_of (Some after.rdr.now) after) is (rw reads.1 refl)
    (rw (is.config, is.going) at reads.0)

none-known : (before after : Reader (Bor (List ℕ))) (fields : List (List ℕ)) (known : Option (List ℕ))
    → ReadsNext default_config before.state (Some (unread before)) known false fields after.state
    → records_left before ≡ []
none-known before after fields None reads = absurd reads
none-known before after fields (Some left) reads =
    all-none before.state (unread before) (next-none _ fields after.state left reads)

goes-on : (before after : Reader (Bor (List ℕ))) (fields : List (List ℕ)) → IsBetweenRecords before
    → Took before after fields → ReadsOn before after → IsBetweenRecords after
goes-on before after fields is all on = record {
  config = on.0 ∙ is.config;
  flexible = on.2 ∙ is.flexible;
  trim = on.1 ∙ is.trim;
  ready = (on.4 is.ready).0;
  between = all.between;
  going = all.going;
}

-- what a read of a record does
pub reads : (before after : Reader (Bor (List ℕ))) (found : Bool) (fields : List (List ℕ)) → IsBetweenRecords before
    → ReadRecord (λ bytes. Some bytes.now) before after found fields → (found ≡ true → ReadsOn before after)
    → ReadsRecord before after found fields
reads before after true fields is read on =
    let all = took before after fields is read in
    record {
      takes = all.takes;
      between = λ e. goes-on before after fields is all (on refl);
      shorter = λ e. all.shorter;
    }
reads before after false fields is read on = record {
  takes =
      none-known before after fields (pending_of (Some after.rdr.now) after) (rw (is.config, is.going) at read.0);
  between = λ e. cc e;
  shorter = λ e. cc e;
}

-- what holds of the value of an answer that has the value of another
pub same-value : {T E D : Type 0} (P : T → Type 0) (first : Result T E) (answer : Result T D)
    → is_ok answer ≡ is_ok first → ((x : T) → first ≡ Ok x → answer ≡ Ok x) → ((x : T) → first ≡ Ok x → P x)
    → IfOk answer P
same-value P (Ok x) answer same gives holds = rw (gives x refl) (holds x refl)
same-value P (Err e) (Ok x) same gives holds = cc same
same-value P (Err e) (Err d) same gives holds = tt
