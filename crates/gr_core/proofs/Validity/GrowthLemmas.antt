-- A desk stays valid while the clock goes on, the roll grows, and sponsors come and go.
use Rattle.std.proofs.Common.{◌≡◌, ℕ, ◌≤◌, inl, inr, List, Option, Some, IsSome, IfSome, refl, sym, ap, ◌∙◌, subst, arith}
use Rattle.std.specs.Prelude.{option_and_then}
use Rattle.std.specs.FinMap.{FinMap, get, insert, len}
use Rattle.gr_count.specs.declared.limits.TheConstants.{MAX_DEVELOPERS}
use Rattle.gr_core.specs.declared.discussion.Discussion.{Discussion}
use Rattle.gr_core.specs.declared.resolution.Poll.{Poll}
use Rattle.gr_core.specs.declared.resolution.Resolution.{Resolution}
use Rattle.gr_core.specs.declared.choice.ChoiceKey.{ChoiceKey}
use Rattle.gr_core.specs.declared.sponsor.Sponsorship.{Sponsorship}
use Rattle.gr_core.specs.Parts.Key.{SponsorKey, BallotKey, text_cmp}
use Rattle.gr_core.specs.Parts.Developer.{DeveloperModel}
use Rattle.gr_core.specs.Parts.Resolution.{discussion_of, poll_of}
use Rattle.gr_core.specs.Parts.Choice.{ChoiceModel, Proposer, login_of_proposer}
use Rattle.gr_core.specs.Parts.Ballot.{BallotModel}
use Rattle.gr_core.specs.Desks.State.{State}
use Rattle.gr_core.specs.Desks.Valid.{AreTables, AreDevelopers, HasCome, IsDiscussion, IsPoll, IsResolution, IsChoice, IsSponsorship}
use Rattle.gr_core.proofs.Collections.PresenceLemmas.{each, given, IsSomeAnd-more}
use Rattle.gr_core.proofs.Contents.SponsorLemmas.{sponsor_total, sponsor_only}
use Rattle.gr_core.proofs.Collections.RowPutLemmas.{insert_cases}
use Rattle.gr_core.proofs.Validity.AlteredLemmas.{resolution-same}

module _ (clock at : ℕ) (on : clock ≤ at) where
  -- what has come by a moment has come by a later one
  until : (moment : ℕ) → moment ≤ clock → moment ≤ at
  until moment by = omega arith

  -- a moment that has come has come later on
  come : (moment : ℕ) → HasCome clock moment → HasCome at moment
  come moment has = (has.0, until moment has.1)

  -- so of a discussion
  discussion-later : (discussion : Discussion) → IsDiscussion clock discussion → IsDiscussion at discussion
  discussion-later discussion was = record {
    start = come discussion.start was.start;
    changed = each discussion.changed _ _ (λ moment is. (is.0, until moment is.1)) was.changed;
    shift = was.shift;
  }

  -- of a poll
  poll-later : (discussion : Discussion) (poll : Poll) → IsPoll clock discussion poll → IsPoll at discussion poll
  poll-later discussion poll was = record {
    called = (was.called.0, until poll.called was.called.1);
    days = was.days;
    developers = was.developers;
  }

  -- of a resolution
  resolution-later : (s : State) (number : ℕ) (resolution : Resolution) → IsResolution clock s number resolution
      → IsResolution at s number resolution
  resolution-later s number resolution was = record {
    discussion = each (discussion_of resolution) _ _ discussion-later was.discussion;
    poll = each (discussion_of resolution) _ _
        (λ discussion. each (poll_of resolution) _ _ (poll-later discussion)) was.poll;
    some = was.some;
    few = was.few;
    numbered = was.numbered;
    sole = was.sole;
    introduced = was.introduced;
    places = was.places;
    placed = was.placed;
  }

  -- and of a choice
  choice-later : (developers : FinMap text_cmp DeveloperModel) (resolution : Resolution) (choice : ChoiceModel)
      → IsChoice clock developers resolution choice → IsChoice at developers resolution choice
  choice-later developers resolution choice was = record {
    proposer = was.proposer;
    summary = was.summary;
    text = was.text;
    ratio = was.ratio;
    introduced = each choice.introduced _ _ (λ moment is. (until moment is.0, is.1)) was.introduced;
    short = each choice.short _ _ (λ moment is. (come moment is.0, is.1)) was.short;
    place = was.place;
  }

  -- the clock goes on
  pub clock-later : (s : State) → AreTables clock s → AreTables at s
  clock-later s valid = record {
    few = valid.few;
    developers = valid.developers;
    numbered = valid.numbered;
    resolutions = λ number resolution is. resolution-later s number resolution (valid.resolutions number resolution is);
    choices = λ key choice is. IsSomeAnd-more (get s.resolutions key.resolution) _ _
        (λ resolution. choice-later s.developers resolution choice) (valid.choices key choice is);
    sponsors = valid.sponsors;
  }

-- a choice has another proposer, or the roll is another one
pub choice-proposed : (clock : ℕ) (developers others : FinMap text_cmp DeveloperModel) (resolution : Resolution)
    (choice : ChoiceModel) (proposer : Option Proposer)
    → IfSome (option_and_then login_of_proposer proposer) (λ login. IsSome (get others login))
    → IsChoice clock developers resolution choice
    → IsChoice clock others resolution (record choice { proposer = proposer })
choice-proposed clock developers others resolution choice proposer on was = record {
  proposer = on;
  summary = was.summary;
  text = was.text;
  ratio = was.ratio;
  introduced = was.introduced;
  short = was.short;
  place = was.place;
}

-- the roll grows, or rows of it change
pub developers-grown : (clock : ℕ) (s : State) (developers : FinMap text_cmp DeveloperModel) → AreTables clock s
    → len developers ≤ MAX_DEVELOPERS → AreDevelopers developers
    → ((login : List ℕ) → IsSome (get s.developers login) → IsSome (get developers login))
    → AreTables clock (record s { developers = developers })
developers-grown clock s developers valid few all grows =
    let t : State = record s { developers = developers } in
    record {
      few = few;
      developers = all;
      numbered = record { few = valid.numbered.few; numbered = valid.numbered.numbered };
      resolutions = λ number resolution is. resolution-same clock s t number resolution (λ key on. refl)
          (valid.resolutions number resolution is);
      choices = λ key choice is. IsSomeAnd-more (get s.resolutions key.resolution)
          (λ resolution. IsChoice clock s.developers resolution choice)
          (λ resolution. IsChoice clock developers resolution choice)
          (λ resolution was. choice-proposed clock s.developers developers resolution choice choice.proposer
          (each _ _ _ grows was.proposer) was) (valid.choices key choice is);
      sponsors = λ key login sponsorship is. IsSomeAnd-more (get s.choices key)
          (λ choice. IsSponsorship s.developers choice login sponsorship)
          (λ choice. IsSponsorship developers choice login sponsorship)
          (λ choice was. record { on_roll = grows login was.on_roll; other = was.other })
          (valid.sponsors key login sponsorship is);
    }

-- the row of a sponsor is put
pub sponsor-put : (clock : ℕ) (s : State) (choice : ChoiceKey) (login : List ℕ) (sponsorship : Sponsorship)
    (row : ChoiceModel) → AreTables clock s
    → get s.choices choice ≡ Some row → IsSponsorship s.developers row login sponsorship
    → AreTables clock (record s { sponsors = insert s.sponsors (choice, login) sponsorship })
sponsor-put clock s choice login sponsorship row valid is fits =
    let t : State = record s { sponsors = insert s.sponsors (choice, login) sponsorship } in
    record {
      few = valid.few;
      developers = valid.developers;
      numbered = record { few = valid.numbered.few; numbered = valid.numbered.numbered };
      resolutions = λ number resolution there. resolution-same clock s t number resolution (λ key on. refl)
          (valid.resolutions number resolution there);
      choices = valid.choices;
      sponsors = λ key other found there.
          elim (insert_cases sponsor_total sponsor_only s.sponsors (choice, login)
          (key, other) sponsorship found there) [
            | inl same ↦
                let one : key ≡ choice = ap (λ (k : SponsorKey). k.0) same.0 in
                let name : other ≡ login = ap (λ (k : SponsorKey). k.1) same.0 in
                given (get s.choices key) (λ c. IsSponsorship s.developers c other found) row (ap (get s.choices) one ∙ is)
                (subst (λ l. IsSponsorship s.developers row l found) (sym name)
                (subst (IsSponsorship s.developers row login) same.1 fits))
            | inr before ↦ valid.sponsors key other found before
          ];
    }

-- a ballot is put
pub ballot-put : (clock : ℕ) (s : State) (key : BallotKey) (ballot : BallotModel) → AreTables clock s
    → AreTables clock (record s { ballots = insert s.ballots key ballot })
ballot-put clock s key ballot valid =
    let t : State = record s { ballots = insert s.ballots key ballot } in
    record {
      few = valid.few;
      developers = valid.developers;
      numbered = record { few = valid.numbered.few; numbered = valid.numbered.numbered };
      resolutions = λ number resolution there. resolution-same clock s t number resolution (λ key on. refl)
          (valid.resolutions number resolution there);
      choices = valid.choices;
      sponsors = valid.sponsors;
    }
