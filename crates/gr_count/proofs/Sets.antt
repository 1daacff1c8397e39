-- Sets, relations and numbers that are judged option by option.
use Rattle.std.proofs.Common.{◌≡◌, ◌≢◌, ℕ, ◌+◌, ◌<◌, ◌≤◌, ◌⊎◌, ◌↔◌, Bool, true, false, cond, sym, ◌∙◌, ap, refl, inl, inr, arith, below_more, subst}
use Rattle.std.proofs.lemmas.Bool.{cases_eq, cases_lt, false≢true}
use Rattle.gr_count.specs.declared.options.OptionSet.{OptionSet}
use Rattle.gr_count.specs.declared.relation.Relation.{Relation}
use Rattle.gr_count.specs.declared.numbers.OptionNumbers.{OptionNumbers}
use Rattle.gr_count.specs.Options.{Member, Related, IsSetBelow, IsRelationBelow, IsTakenOut, has, number_of, relates}

-- the options below i are judged, and no later one is in the set
pub record IsJudgedUpTo (Post : ℕ → Bool → Type 0) (set : OptionSet) (i : ℕ) : Type 0 where
  pub front : (a : ℕ) → a < i → Post a (has set a)
  pub rest : (a : ℕ) → i ≤ a → has set a ≡ false

-- one more option is judged
pub IsJudgedUpTo-more : (Post : ℕ → Bool → Type 0) (set more : OptionSet) (i : ℕ) (judged : Bool) → IsJudgedUpTo Post set i → has more i ≡ judged
    → ((a : ℕ) → a ≢ i → has more a ≡ has set a) → Post i judged → IsJudgedUpTo Post more (i + 1)
IsJudgedUpTo-more Post set more i judged so_far here others post = record {
  front = below_more (λ a. Post a (has more a)) i
      (λ a h. subst (Post a) (sym (others a (omega arith))) (so_far.front a h))
      (subst (Post i) (sym here) post);
  rest = λ a h. others a (omega arith) ∙ so_far.rest a (omega arith);
}

-- of the members of a set those that are not left are judged
pub record IsFilteredUpTo (Post : ℕ → Bool → Type 0) (all set rest : OptionSet) : Type 0 where
  pub judged : (a : ℕ) → Member all a → (¬ Member rest a) → Post a (has set a)
  pub later : (a : ℕ) → Member rest a → has set a ≡ false
  pub among : (a : ℕ) → Member set a → Member all a
  pub left : (a : ℕ) → Member rest a → Member all a

pub IsFilteredUpTo-none : (Post : ℕ → Bool → Type 0) (all set : OptionSet) → ((a : ℕ) → has set a ≡ false) → IsFilteredUpTo Post all set all
IsFilteredUpTo-none Post all set empty = record {
  judged = λ a member none. absurd (none member);
  later = λ a member. empty a;
  among = λ a member. absurd (false≢true (sym (empty a) ∙ member));
  left = λ a member. member;
}

-- one more member is judged
pub IsFilteredUpTo-more : (Post : ℕ → Bool → Type 0) (all set more rest fewer : OptionSet) (i : ℕ) (judged : Bool) → IsFilteredUpTo Post all set rest
    → IsTakenOut rest fewer i → has more i ≡ judged → ((a : ℕ) → a ≢ i → has more a ≡ has set a) → Post i judged → IsFilteredUpTo Post all more fewer
IsFilteredUpTo-more Post all set more rest fewer i judged so_far taken here others post =
    let stays : (a : ℕ) → Member fewer a → (a ≢ i) × Member rest a
    = λ a member.
    let other : a ≢ i = λ same. taken.gone (subst (Member fewer) same member) in
    (other, sym (taken.others a other) ∙ member) in
    record {
      judged = λ a member none. elim (cases_eq a i) as (λ _. Post a (has more a)) [
        | inl same ↦ subst (λ x. Post x (has more x)) (sym same) (subst (Post i) (sym here) post)
        | inr other ↦ subst (Post a) (sym (others a other)) (so_far.judged a member (λ is. none (taken.others a other ∙ is)))
      ];
      later = λ a member. others a (stays a member).0 ∙ so_far.later a (stays a member).1;
      among = λ a member. elim (cases_eq a i) as (λ _. Member all a) [
        | inl same ↦ so_far.left a (subst (Member rest) (sym same) taken.had)
        | inr other ↦ so_far.among a (sym (others a other) ∙ member)
      ];
      left = λ a member. so_far.left a (stays a member).1;
    }

-- the row of an option in a relation that is judged below n, and one with no option
abbrev pub IsJudgedRow : ℕ → (ℕ → ℕ → Bool → Type 0) → ℕ → OptionSet → Type 0
IsJudgedRow n Post a row = ((b : ℕ) → b < n → Post a b (has row b)) × IsSetBelow n row

abbrev pub IsEmptyRow : OptionSet → Type 0
IsEmptyRow row = (b : ℕ) → has row b ≡ false

-- of these options those that are not left have the number, and others their own
pub record IsGivenUpTo (options : OptionSet) (number : ℕ) (old new : OptionNumbers) (rest : OptionSet) : Type 0 where
  pub given : (a : ℕ) → Member options a → (¬ Member rest a) → number_of new a ≡ number
  pub later : (a : ℕ) → Member rest a → number_of new a ≡ number_of old a
  pub others : (a : ℕ) → (¬ Member options a) → number_of new a ≡ number_of old a
  pub left : (a : ℕ) → Member rest a → Member options a

pub IsGivenUpTo-none : (options : OptionSet) (number : ℕ) (old : OptionNumbers) → IsGivenUpTo options number old old options
IsGivenUpTo-none options number old = record {
  given = λ a member none. absurd (none member);
  later = λ a member. refl;
  others = λ a none. refl;
  left = λ a member. member;
}

-- one more option has the number
pub IsGivenUpTo-more : (options : OptionSet) (number : ℕ) (old new more : OptionNumbers) (rest fewer : OptionSet) (i : ℕ)
    → IsGivenUpTo options number old new rest → IsTakenOut rest fewer i → number_of more i ≡ number
    → ((a : ℕ) → a ≢ i → number_of more a ≡ number_of new a) → IsGivenUpTo options number old more fewer
IsGivenUpTo-more options number old new more rest fewer i so_far taken here unchanged =
    let stays : (a : ℕ) → Member fewer a → (a ≢ i) × Member rest a
    = λ a member.
    let other : a ≢ i = λ same. taken.gone (subst (Member fewer) same member) in
    (other, sym (taken.others a other) ∙ member) in
    record {
      given = λ a member none. elim (cases_eq a i) as (λ _. number_of more a ≡ number) [
        | inl same ↦ ap (number_of more) same ∙ here
        | inr other ↦ unchanged a other ∙ so_far.given a member (λ is. none (taken.others a other ∙ is))
      ];
      later = λ a member. unchanged a (stays a member).0 ∙ so_far.later a (stays a member).1;
      others = λ a none.
          let other : a ≢ i = λ same. none (so_far.left a (subst (Member rest) (sym same) taken.had)) in
          unchanged a other ∙ so_far.others a none;
      left = λ a member. so_far.left a (stays a member).1;
    }

-- where none is left, each of these options has it
pub IsGivenUpTo-all : (options : OptionSet) (number : ℕ) (old new : OptionNumbers) (rest : OptionSet) → IsGivenUpTo options number old new rest
    → ((a : ℕ) → ¬ Member rest a) → (a : ℕ) → number_of new a ≡ cond (has options a) number (number_of old a)
IsGivenUpTo-all options number old new rest so_far none a =
    elim (has options a) as (λ t. has options a ≡ t → number_of new a ≡ cond t number (number_of old a)) [
      | true ↦ λ is. so_far.given a is (none a)
      | false ↦ λ is. so_far.others a (λ member. false≢true (sym is ∙ member))
    ] refl

-- the row of an option with the number at each pair of a relation
abbrev pub IsGivenRow : Relation → ℕ → ℕ → OptionNumbers → OptionNumbers → Type 0
IsGivenRow pairs number a old new = (b : ℕ) → number_of new b ≡ cond (relates pairs a b) number (number_of old b)

-- what is not related keeps its number
pub ungiven : (pairs : Relation) (number a b old : ℕ) → (¬ Related pairs a b) → old ≡ cond (relates pairs a b) number old
ungiven pairs number a b old none =
    elim (relates pairs a b) as (λ t. relates pairs a b ≡ t → old ≡ cond t number old) [ true ↦ λ is. absurd (none is) | false ↦ λ is. refl ] refl

-- the row of an option with numbers that are made of its own below n
abbrev pub IsUpdatedRow : ℕ → (ℕ → ℕ → ℕ → ℕ → Type 0) → ℕ → OptionNumbers → OptionNumbers → Type 0
IsUpdatedRow n Post a old new =
    ((b : ℕ) → b < n → Post a b (number_of old b) (number_of new b)) × ((b : ℕ) → n ≤ b → number_of new b ≡ number_of old b)

abbrev pub IsZeroRow : OptionNumbers → Type 0
IsZeroRow row = (b : ℕ) → number_of row b ≡ 0

-- what is judged below n, and is nothing from n on, is judged everywhere
pub set_where : (n : ℕ) (set : OptionSet) (P : ℕ → Type 0) → IsSetBelow n set → ((a : ℕ) → P a → a < n) → ((a : ℕ) → a < n → Member set a ↔ P a)
    → (a : ℕ) → Member set a ↔ P a
set_where n set P below inside each a =
    (λ is. (each a (below a is)).0 is, λ p. (each a (inside a p)).1 p)

pub relation_where : (n : ℕ) (relation : Relation) (P : ℕ → ℕ → Type 0) → IsRelationBelow n relation → ((a b : ℕ) → P a b → (a < n) × (b < n))
    → ((a b : ℕ) → a < n → b < n → Related relation a b ↔ P a b) → (a b : ℕ) → Related relation a b ↔ P a b
relation_where n relation P below inside each a b =
    (λ is. let h = below a b is in (each a b h.0 h.1).0 is, λ p. let h = inside a b p in (each a b h.0 h.1).1 p)

-- 0 where there is no option
pub none_past : (n : ℕ) (numbers : ℕ → ℕ → ℕ) → ((a b : ℕ) → 0 < numbers a b → (a < n) × (b < n)) → (a b : ℕ) → (n ≤ a) ⊎ (n ≤ b) → numbers a b ≡ 0
none_past n numbers below a b past =
    elim (cases_lt 0 (numbers a b)) as (λ _. numbers a b ≡ 0) [
      | inl some ↦ let inside : (a < n) × (b < n) = below a b some in absurd (elim past as (λ _. ⊥) [ inl h ↦ omega arith | inr h ↦ omega arith ])
      | inr none ↦ omega arith
    ]
