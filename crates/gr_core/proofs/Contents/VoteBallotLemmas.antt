-- The vote of a resolution, ballot by ballot.
use Rattle.std.proofs.Common.{◌≡◌, ℕ, List, [], ◌∷◌, map, cond, true, false, Bool, Option, Some, None, Ordering, option_map, refl, sym, ap, ◌∙◌}
use Rattle.std.specs.Prelude.{◌&&◌, filter, nat_eq}
use Rattle.std.specs.declared.cmp.Ordering.TheVariants.{Less, Equal, Greater}
use Rattle.std.specs.Ordering.{nat_cmp, is_eq, eq_by_cmp, ordering_then}
use Rattle.std.specs.Cmp.{unsigned_ties, tied_itself, nat_cmp_total}
use Rattle.std.specs.FinMap.{FinMap, empty, entries, find, get, get-empty, insert, get-entries, get-from_entries, get-insert, same_map}
use Rattle.gr_count.specs.declared.mark.Mark.{Mark}
use Rattle.gr_core.specs.Parts.Key.{BallotKey, text_cmp, ballot_cmp}
use Rattle.gr_core.specs.Parts.Ballot.{BallotModel, ballots_of, voter_of, vote_of}
use Rattle.gr_count.specs.Ballot.{Vote}
use Rattle.gr_core.proofs.Contents.BallotKeys.{ballot_total}
use Rattle.gr_core.proofs.Collections.TextKeys.{text_total, text_only}

tie : (first second : Ordering) → is_eq (ordering_then first second) ≡ (is_eq first && is_eq second)
tie Less second = refl
tie Equal second = refl
tie Greater second = refl

abbrev pub ranks_in : BallotModel → List Mark
ranks_in row = row.ranks

mapped : (b : Bool) (row : BallotModel) (o : Option BallotModel)
    → cond b (Some row.ranks) (option_map ranks_in o) ≡ option_map ranks_in (cond b (Some row) o)
mapped true row o = refl
mapped false row o = refl

module _ (number : ℕ) (login : List ℕ) where
  abbrev found_voter : List (BallotKey × BallotModel) → Option (List Mark)
  found_voter es = find text_cmp login (map voter_of (filter (λ entry. nat_eq number entry.0.0) es))

  abbrev found_ballot : List (BallotKey × BallotModel) → Option (List Mark)
  found_ballot es = option_map ranks_in (find ballot_cmp (number, login) es)

  one_more : (e : BallotKey × BallotModel) (es : List (BallotKey × BallotModel)) → found_voter es ≡ found_ballot es → (b : Bool)
      → nat_eq number e.0.0 ≡ b → found_voter (e ∷ es) ≡ found_ballot (e ∷ es)
  one_more e es rest true is =
      let tied : is_eq (nat_cmp number e.0.0) ≡ true = sym (unsigned_ties number e.0.0) ∙ is in
      let key : is_eq (ballot_cmp (number, login) e.0) ≡ is_eq (text_cmp login e.0.1)
      = tie (nat_cmp number e.0.0) (text_cmp login e.0.1) ∙ ap (λ t. t && is_eq (text_cmp login e.0.1)) tied in
      ap (λ (t : Bool). find text_cmp login (map voter_of (cond t (e ∷ filter (λ entry. nat_eq number entry.0.0) es)
      (filter (λ entry. nat_eq number entry.0.0) es)))) is
      ∙ ap (cond (is_eq (text_cmp login e.0.1)) (Some e.1.ranks)) rest
      ∙ mapped (is_eq (text_cmp login e.0.1)) e.1 (find ballot_cmp (number, login) es)
      ∙ ap (λ t. option_map ranks_in (cond t (Some e.1) (find ballot_cmp (number, login) es))) (sym key)
  one_more e es rest false is =
      let apart : is_eq (nat_cmp number e.0.0) ≡ false = sym (unsigned_ties number e.0.0) ∙ is in
      let key : is_eq (ballot_cmp (number, login) e.0) ≡ false
      = tie (nat_cmp number e.0.0) (text_cmp login e.0.1) ∙ ap (λ t. t && is_eq (text_cmp login e.0.1)) apart in
      ap (λ (t : Bool). find text_cmp login (map voter_of (cond t (e ∷ filter (λ entry. nat_eq number entry.0.0) es)
      (filter (λ entry. nat_eq number entry.0.0) es)))) is
      ∙ rest
      ∙ ap (λ t. option_map ranks_in (cond t (Some e.1) (find ballot_cmp (number, login) es))) (sym key)

  -- a voter of the resolution is found where the ballot is
  voter_found : (es : List (BallotKey × BallotModel)) → found_voter es ≡ found_ballot es
  voter_found [] = refl
  voter_found (e ∷ es) = one_more e es (voter_found es) (nat_eq number e.0.0) refl

  pub get-vote_of : (ballots : FinMap ballot_cmp BallotModel) → get (vote_of ballots number) login ≡ option_map ranks_in (get ballots (number, login))
  get-vote_of ballots =
      get-from_entries text_total (map voter_of (ballots_of ballots number)) login
      ∙ voter_found (entries ballots)
      ∙ ap (option_map ranks_in) (sym (get-entries ballots (number, login)))

-- votes are equal where their voters have equal ranks
pub same_vote : (one other : Vote) → ((login : List ℕ) → get one login ≡ get other login) → one ≡ other
same_vote = same_map text_total text_only

-- a ballot that is put is that of its voter in the vote
pub vote_of-put : (ballots : FinMap ballot_cmp BallotModel) (number : ℕ) (login : List ℕ) (row : BallotModel)
    → vote_of (insert ballots (number, login) row) number ≡ insert (vote_of ballots number) login row.ranks
vote_of-put ballots number login row = same_vote _ _ (λ voter.
    get-vote_of number voter (insert ballots (number, login) row)
    ∙ ap (option_map ranks_in) (get-insert ballot_total ballots (number, login) row (number, voter))
    ∙ ap (λ t. option_map ranks_in (cond t (Some row) (get ballots (number, voter)))) (same_key voter)
    ∙ sym (mapped (eq_by_cmp text_cmp voter login) row (get ballots (number, voter)))
    ∙ ap (cond (eq_by_cmp text_cmp voter login) (Some row.ranks)) (sym (get-vote_of number voter ballots))
    ∙ sym (get-insert text_total (vote_of ballots number) login row.ranks voter))
  where
    same_key : (voter : List ℕ) → eq_by_cmp ballot_cmp (number, voter) (number, login) ≡ eq_by_cmp text_cmp voter login
    same_key voter = tie (nat_cmp number number) (text_cmp voter login)
        ∙ ap (λ o. is_eq o && is_eq (text_cmp voter login)) (tied_itself nat_cmp_total number)

-- where a resolution has no ballot, nobody is in its vote
pub vote_of-none : (ballots : FinMap ballot_cmp BallotModel) (number : ℕ) → ((login : List ℕ) → get ballots (number, login) ≡ None)
    → vote_of ballots number ≡ empty
vote_of-none ballots number none = same_vote _ _ (λ voter.
    get-vote_of number voter ballots ∙ ap (option_map ranks_in) (none voter) ∙ sym (get-empty text_cmp voter))
