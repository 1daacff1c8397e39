-- What the check of a command finds: the act that it was, and what the desk has of what that names.
use Rattle.std.specs.Prelude.{◌≡◌, ℕ, ⊤, map, length, Option, Some, option_map}
use Rattle.std.specs.FinMap.{get}
use Rattle.gr_count.specs.Ballot.{character_of}
use Rattle.gr_count.specs.Shown.{marks_in}
use Rattle.gr_core.specs.declared.choice.ChoiceKey.{ChoiceKey}
use Rattle.gr_core.specs.declared.choice.Choice.{Choice}
use Rattle.gr_core.specs.declared.finding.Finding.{Finding}
use Rattle.gr_core.specs.declared.finding.Finding.TheVariants as finding
use Rattle.gr_core.specs.declared.resolution.Resolution.TheVariants.{Discussing, Voting, Closed}
use Rattle.gr_core.specs.Parts.Choice.{choice_model, proposer_of, wording_of}
use Rattle.gr_core.specs.Parts.Ballot.{AreRanks, ballot_model}
use Rattle.gr_core.specs.Desks.State.{State}
use Rattle.gr_core.specs.Desks.Outcome.{place_count}
use Rattle.gr_core.specs.Machine.Import.{roll_row}
use Rattle.gr_core.specs.Machine.Act.{Act, SetDeveloper, ImportRoll, Propose, AddChoice, Sponsor, Unsponsor, Withdraw, Adopt, Amend, Vary, Call, Vote, Close, Cast}
use Rattle.gr_core.specs.Machine.Effect.{live_choices}

-- the act, with its ranks in the characters of their marks
abbrev pub act_in : Finding → Act
act_in (finding.SetDeveloper found) = SetDeveloper found.login.now found.name.now found.standing
act_in (finding.ImportRoll rows) = ImportRoll (map roll_row rows.now)
act_in (finding.Propose found) = Propose (proposer_of found.proposer.now) (wording_of found.wording.now) found.ratio
act_in (finding.AddChoice found) =
    AddChoice found.number (proposer_of found.proposer.now) (wording_of found.wording.now) found.ratio
act_in (finding.Sponsor found) = Sponsor found.key found.login.now
act_in (finding.Unsponsor found) = Unsponsor found.key found.login.now
act_in (finding.Withdraw found) = Withdraw found.key
act_in (finding.Adopt found) = Adopt found.key (proposer_of found.proposer.now)
act_in (finding.Amend found) = Amend found.key found.amendment (wording_of found.wording.now)
act_in (finding.Vary found) = Vary found.number found.days
act_in (finding.Call found) = Call found.number found.days
act_in (finding.Vote found) =
    Vote found.resolution found.login.now (map character_of (marks_in found.ranks)) found.token.now
act_in (finding.Close found) = Close found.number
act_in (finding.Cast found) = Cast found.number found.place

-- the desk has this choice under the key
abbrev pub HasChoice : State → ChoiceKey → Choice → Type 0
HasChoice s key choice = get s.choices key ≡ Some (choice_model choice)

-- what was found is what the desk has at this moment
abbrev pub IsFoundOn : State → ℕ → Finding → Type 0
IsFoundOn s at (finding.AddChoice found) = get s.resolutions found.number ≡ Some found.resolution
IsFoundOn s at (finding.Sponsor found) =
    HasChoice s found.key found.choice.now × (get s.resolutions found.key.resolution ≡ Some found.resolution)
IsFoundOn s at (finding.Unsponsor found) = HasChoice s found.key found.choice.now
IsFoundOn s at (finding.Withdraw found) = HasChoice s found.key found.choice.now
IsFoundOn s at (finding.Adopt found) =
    HasChoice s found.key found.choice.now × (get s.resolutions found.key.resolution ≡ Some found.resolution)
IsFoundOn s at (finding.Amend found) =
    HasChoice s found.key found.choice.now × (get s.resolutions found.key.resolution ≡ Some found.resolution)
IsFoundOn s at (finding.Vary found) = get s.resolutions found.number ≡ Some (Discussing found.discussion)
IsFoundOn s at (finding.Call found) =
    (get s.resolutions found.number ≡ Some (Discussing found.discussion))
    × (found.live ≡ length (live_choices s.choices at found.number))
IsFoundOn s at (finding.Vote found) =
    AreRanks (place_count s.choices found.resolution) (marks_in found.ranks)
    × (option_map ballot_model found.earlier ≡ get s.ballots (found.resolution, found.login.now))
IsFoundOn s at (finding.Close found) = get s.resolutions found.number ≡ Some (Voting found.discussion found.poll)
IsFoundOn s at (finding.Cast found) =
    (chosen : Option ℕ) × (get s.resolutions found.number ≡ Some (Closed found.discussion found.poll chosen))
IsFoundOn s at other = ⊤
