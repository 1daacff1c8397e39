-- The fields of a row tell what it is the row of, where that fits the columns; they tell its key in any case.
use Rattle.std.proofs.Common.{arith, ◌≡◌, ℕ, ◌<◌, ℤ, List, Option, Some, None, unwrap_or, IfSome, refl, ap, ◌∙◌}
use Rattle.hex.specs.Hex.{encode_lower}
use Rattle.gr_count.specs.declared.mark.Mark.{Mark}
use Rattle.gr_core.specs.declared.header.Header.{Header}
use Rattle.gr_core.specs.declared.developer.Standing.{Standing}
use Rattle.gr_core.specs.declared.developer.Standing.TheVariants.{Current, Retired}
use Rattle.gr_core.specs.declared.discussion.Discussion.{Discussion}
use Rattle.gr_core.specs.declared.resolution.Poll.{Poll}
use Rattle.gr_core.specs.declared.resolution.Resolution.{Resolution}
use Rattle.gr_core.specs.declared.resolution.Resolution.TheVariants.{Draft, Discussing, Voting, Closed, Cancelled}
use Rattle.gr_core.specs.declared.choice.ChoiceKey.{ChoiceKey}
use Rattle.gr_core.specs.declared.sponsor.Sponsorship.{Sponsorship}
use Rattle.gr_core.specs.declared.sponsor.Sponsorship.TheVariants.{Active, Withdrawn}
use Rattle.gr_core.specs.declared.receipt.Receipt.{Receipt}
use Rattle.gr_core.specs.Parts.Key.{SponsorKey, BallotKey}
use Rattle.gr_core.specs.Parts.Developer.{DeveloperModel}
use Rattle.gr_core.specs.Parts.Choice.{Proposer, Developer, Leader, Committee, ChoiceModel, choice_key}
use Rattle.gr_core.specs.Parts.Ballot.{BallotModel}
use Rattle.gr_core.proofs.Collections.PresenceLemmas.{each}
use Rattle.gr_core.proofs.Columns.RanksLemmas.{ranks_text-injective}
use Rattle.gr_core.proofs.Columns.ReceiptLemmas.{receipt-told}
use Rattle.gr_core.specs.Columns.Fields.{Number, natural, natural_or_0, standing_code, stage_code, kind_code, proposer_text, sponsorship_code, ranks_text, header_fields, developer_fields, resolution_fields, choice_fields, sponsor_fields, ballot_fields, IsSmall, IsWhole, FitsDiscussion, FitsResolution, FitsChoice, FitsBallot}

-- ==== single columns

-- a value that may be missing, and is not 0
abbrev pub IsKept : Option ℕ → Type 0
IsKept value = IfSome value (λ n. 0 < n)

-- what is kept is not 0
positive : (value : Option ℕ) (P : ℕ → Type 0) → IfSome value (λ n. (0 < n) × P n) → IsKept value
positive value P kept = each value (λ n. (0 < n) × P n) (λ n. 0 < n) (λ n both. both.0) kept

pub natural_or_0-injective : (a b : Option ℕ) → IsKept a → IsKept b → unwrap_or a 0 ≡ unwrap_or b 0 → a ≡ b
natural_or_0-injective None None ka kb same = refl
natural_or_0-injective (Some a) (Some b) ka kb same = ap Some same
natural_or_0-injective None (Some b) ka kb same = absurd (omega (arith, kb, same))
natural_or_0-injective (Some a) None ka kb same = absurd (omega (arith, ka, same))

pub standing_code-injective : (a b : Standing) → standing_code a ≡ standing_code b → a ≡ b
standing_code-injective Retired Retired same = refl
standing_code-injective Current Current same = refl
standing_code-injective Retired Current same = cc
standing_code-injective Current Retired same = cc

pub sponsorship_code-injective : (a b : Sponsorship) → sponsorship_code a ≡ sponsorship_code b → a ≡ b
sponsorship_code-injective Active Active same = refl
sponsorship_code-injective Withdrawn Withdrawn same = refl
sponsorship_code-injective Active Withdrawn same = cc
sponsorship_code-injective Withdrawn Active same = cc

-- ==== the header

abbrev header_of : (version accepted clock : ℕ) → Header
header_of version accepted clock = record { version = version; accepted = accepted; clock = clock }

pub header_fields-injective : (a b : Header) → header_fields a ≡ header_fields b → a ≡ b
header_fields-injective a b same =
    let version : a.version ≡ b.version = cc in
    let accepted : a.accepted ≡ b.accepted = cc in
    let clock : a.clock ≡ b.clock = cc in
    let whole : header_of a.version a.accepted a.clock ≡ header_of b.version b.accepted b.clock = cc in
    whole

-- ==== developers

pub developer_fields-key : (k l : List ℕ) (v w : DeveloperModel) → developer_fields (k, v) ≡ developer_fields (l, w) → k ≡ l
developer_fields-key k l v w same = cc

abbrev developer : List ℕ → Standing → DeveloperModel
developer name standing = record { name = name; standing = standing }

pub developer_fields-injective : (a b : List ℕ × DeveloperModel) → developer_fields a ≡ developer_fields b → a ≡ b
developer_fields-injective (k, v) (l, w) same =
    let key : k ≡ l = cc in
    let name : v.name ≡ w.name = cc in
    let codes : standing_code v.standing ≡ standing_code w.standing = cc in
    let standing = standing_code-injective v.standing w.standing codes in
    let row : developer v.name v.standing ≡ developer w.name w.standing = cc in
    ap (λ (r : DeveloperModel). (k, r)) row ∙ ap (λ (m : List ℕ). (m, w)) key

-- ==== resolutions

abbrev discussion : ℕ → Option ℕ → ℤ → Discussion
discussion start changed shift = record { start = start; changed = changed; shift = shift }

discussion-told : (a b : Discussion) → FitsDiscussion a → FitsDiscussion b → natural a.start ≡ natural b.start
    → natural_or_0 a.changed ≡ natural_or_0 b.changed → Number a.shift ≡ Number b.shift → a ≡ b
discussion-told a b fits fitsb starts changes shifts =
    let start : a.start ≡ b.start = cc in
    let changed = natural_or_0-injective a.changed b.changed (positive a.changed IsWhole fits.changed)
    (positive b.changed IsWhole fitsb.changed) (cc) in
    let shift : a.shift ≡ b.shift = cc in
    let whole : discussion a.start a.changed a.shift ≡ discussion b.start b.changed b.shift = cc in
    whole

abbrev poll : (called days developers : ℕ) → Poll
poll called days developers = record { called = called; days = days; developers = developers }

poll-told : (a b : Poll) → natural a.called ≡ natural b.called → natural a.days ≡ natural b.days
    → natural a.developers ≡ natural b.developers → a ≡ b
poll-told a b calls periods counts =
    let called : a.called ≡ b.called = cc in
    let days : a.days ≡ b.days = cc in
    let developers : a.developers ≡ b.developers = cc in
    let whole : poll a.called a.days a.developers ≡ poll b.called b.days b.developers = cc in
    whole

pub resolution_fields-key : (k l : ℕ) (v w : Resolution) → resolution_fields (k, v) ≡ resolution_fields (l, w) → k ≡ l
resolution_fields-key k l v w same = cc

pub resolution_fields-injective : (a b : ℕ × Resolution) → FitsResolution a.0 a.1 → FitsResolution b.0 b.1
    → resolution_fields a ≡ resolution_fields b → a ≡ b
resolution_fields-injective (k, Draft) (l, Draft) fits fitsb same = cc
resolution_fields-injective (k, Discussing d) (l, Discussing e) fits fitsb same =
    let alike = discussion-told d e fits.stage.discussion fitsb.stage.discussion (cc) (cc) (cc) in
    cc
resolution_fields-injective (k, Voting d p) (l, Voting e q) fits fitsb same =
    let alike = discussion-told d e fits.stage.discussion fitsb.stage.discussion (cc) (cc) (cc) in
    let polls = poll-told p q (cc) (cc) (cc) in
    cc
resolution_fields-injective (k, Closed d p chosen) (l, Closed e q place) fits fitsb same =
    let alike = discussion-told d e fits.stage.discussion fitsb.stage.discussion (cc) (cc) (cc) in
    let polls = poll-told p q (cc) (cc) (cc) in
    let choice = natural_or_0-injective chosen place (positive chosen IsSmall fits.stage.chosen) (positive place IsSmall fitsb.stage.chosen) (cc) in
    cc
resolution_fields-injective (k, Cancelled d) (l, Cancelled e) fits fitsb same =
    let alike = discussion-told d e fits.stage.discussion fitsb.stage.discussion (cc) (cc) (cc) in
    cc
resolution_fields-injective (k, r) (l, s) fits fitsb same =
    let stages : stage_code r ≡ stage_code s = cc in
    let apart : ⊥ = cc in
    absurd apart

-- ==== choices

-- kind and login tell the proposer
pub proposer-told : (a b : Option Proposer) → kind_code a ≡ kind_code b → proposer_text a ≡ proposer_text b → a ≡ b
proposer-told None None kinds logins = refl
proposer-told None (Some (Developer b)) kinds logins = cc
proposer-told None (Some Leader) kinds logins = cc
proposer-told None (Some Committee) kinds logins = cc
proposer-told (Some (Developer a)) None kinds logins = cc
proposer-told (Some (Developer a)) (Some (Developer b)) kinds logins = ap (λ login. Some (Developer login)) logins
proposer-told (Some (Developer a)) (Some Leader) kinds logins = cc
proposer-told (Some (Developer a)) (Some Committee) kinds logins = cc
proposer-told (Some Leader) None kinds logins = cc
proposer-told (Some Leader) (Some (Developer b)) kinds logins = cc
proposer-told (Some Leader) (Some Leader) kinds logins = refl
proposer-told (Some Leader) (Some Committee) kinds logins = cc
proposer-told (Some Committee) None kinds logins = cc
proposer-told (Some Committee) (Some (Developer b)) kinds logins = cc
proposer-told (Some Committee) (Some Leader) kinds logins = cc
proposer-told (Some Committee) (Some Committee) kinds logins = refl

pub choice_fields-key : (k l : ChoiceKey) (v w : ChoiceModel) → choice_fields (k, v) ≡ choice_fields (l, w) → k ≡ l
choice_fields-key k l v w same =
    let resolution : k.resolution ≡ l.resolution = cc in
    let number : k.number ≡ l.number = cc in
    let whole : choice_key k.resolution k.number ≡ choice_key l.resolution l.number = cc in
    whole

abbrev row : Option Proposer → List ℕ → List ℕ → ℕ → Option ℕ → Option ℕ → Option ℕ → ChoiceModel
row proposer summary text ratio introduced short place = record {
  proposer = proposer;
  wording = record { summary = summary; text = text };
  ratio = ratio;
  introduced = introduced;
  short = short;
  place = place;
}

pub choice_fields-injective : (a b : ChoiceKey × ChoiceModel) → FitsChoice a.0 a.1 → FitsChoice b.0 b.1
    → choice_fields a ≡ choice_fields b → a ≡ b
choice_fields-injective (k, v) (l, w) fits fitsb same =
    let key = choice_fields-key k l v w same in
    let kinds : kind_code v.proposer ≡ kind_code w.proposer = cc in
    let logins : proposer_text v.proposer ≡ proposer_text w.proposer = cc in
    let proposer = proposer-told v.proposer w.proposer kinds logins in
    let summary : v.wording.summary ≡ w.wording.summary = cc in
    let text : v.wording.text ≡ w.wording.text = cc in
    let ratio : v.ratio ≡ w.ratio = cc in
    let introduced = natural_or_0-injective v.introduced w.introduced
    (positive v.introduced IsWhole fits.introduced)
    (positive w.introduced IsWhole fitsb.introduced) (cc) in
    let short = natural_or_0-injective v.short w.short
    (positive v.short IsWhole fits.short)
    (positive w.short IsWhole fitsb.short) (cc) in
    let place = natural_or_0-injective v.place w.place
    (positive v.place IsSmall fits.place)
    (positive w.place IsSmall fitsb.place) (cc) in
    let rows : row v.proposer v.wording.summary v.wording.text v.ratio v.introduced v.short v.place
    ≡ row w.proposer w.wording.summary w.wording.text w.ratio w.introduced w.short w.place = cc in
    ap (λ (r : ChoiceModel). (k, r)) rows ∙ ap (λ (m : ChoiceKey). (m, w)) key

-- ==== sponsors

pub sponsor_fields-key : (k l : SponsorKey) (v w : Sponsorship) → sponsor_fields (k, v) ≡ sponsor_fields (l, w) → k ≡ l
sponsor_fields-key (choice, login) (other, alike) v w same =
    let resolution : choice.resolution ≡ other.resolution = cc in
    let number : choice.number ≡ other.number = cc in
    let key : choice_key choice.resolution choice.number ≡ choice_key other.resolution other.number = cc in
    let keys : choice ≡ other = key in
    let text : login ≡ alike = cc in
    cc

pub sponsor_fields-injective : (a b : SponsorKey × Sponsorship) → sponsor_fields a ≡ sponsor_fields b → a ≡ b
sponsor_fields-injective (k, v) (l, w) same =
    let key = sponsor_fields-key k l v w same in
    let codes : sponsorship_code v ≡ sponsorship_code w = cc in
    let row = sponsorship_code-injective v w codes in
    cc

-- ==== ballots

pub ballot_fields-key : (k l : BallotKey) (v w : BallotModel) → ballot_fields (k, v) ≡ ballot_fields (l, w) → k ≡ l
ballot_fields-key (resolution, login) (other, alike) v w same =
    let number : resolution ≡ other = cc in
    let text : login ≡ alike = cc in
    cc

abbrev ballot : List Mark → Receipt → ℕ → BallotModel
ballot ranks receipt received = record { ranks = ranks; receipt = receipt; received = received }

pub ballot_fields-injective : (a b : BallotKey × BallotModel) → FitsBallot a.0.0 a.1 → FitsBallot b.0.0 b.1
    → ballot_fields a ≡ ballot_fields b → a ≡ b
ballot_fields-injective (k, v) (l, w) fits fitsb same =
    let key = ballot_fields-key k l v w same in
    let texts : ranks_text v.ranks ≡ ranks_text w.ranks = cc in
    let ranks = ranks_text-injective v.ranks w.ranks fits.ranks.marks fitsb.ranks.marks texts in
    let digits : encode_lower v.receipt.digest ≡ encode_lower w.receipt.digest = cc in
    let receipt = receipt-told v.receipt w.receipt fits.receipt fitsb.receipt digits in
    let received : v.received ≡ w.received = cc in
    let rows : ballot v.ranks v.receipt v.received ≡ ballot w.ranks w.receipt w.received = cc in
    ap (λ (r : BallotModel). (k, r)) rows ∙ ap (λ (m : BallotKey). (m, w)) key
