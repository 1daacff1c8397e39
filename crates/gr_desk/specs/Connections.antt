-- Connections that are served one after the other, over one office.
use Rattle.std.specs.Prelude.{◌≡◌, ◌⊎◌, ℕ, List, [], ◌∷◌, ◌++◌, length, Option, IsSome}
use Rattle.sqlite_trees.specs.declared.store.Store.{Ghosts}
use Rattle.gr_office.specs.Office.{Office}
use Rattle.gr_core.specs.Machine.Act.{Act}
use Rattle.gr_office.specs.History.{Attempt, AreMade, Fate}
use Rattle.gr_http.specs.Response.{Response, response_bytes}
use Rattle.gr_http.specs.Fates.{TellsOf, delivered, undelivered}
use Rattle.gr_http.specs.Exchange.{IsExchange}
use Rattle.gr_http.specs.Door.{Ended, Brings, EndsTold, EndsCutOff, EndsUnread}

-- how it stands between two connections: the office, what the connections to come bring, and how those so far ended
pub record Between (S : Type 0) : Type 0 where
  pub office : Office S
  pub awaited : Option (List (List ℕ))
  pub ended : Option (List Ended)

-- What a door that refused a connection knew then: what the connections to come bring, and how those so far ended.
abbrev pub Refusals : Type 1
Refusals = Option (List (List ℕ)) → Option (List Ended) → Type 0

-- by the words of a kind of door: one refused a connection between these, and knew this after it
abbrev pub DoorRefuses : {D : Type 0} → (D → D → Type 0) → (D → Option (List (List ℕ))) → (D → Option (List Ended))
    → Refusals
DoorRefuses {D} refuses awaited ended coming so_far =
    (before : D) × (after : D) × refuses before after × (awaited after ≡ coming) × (ended after ≡ so_far)

abbrev pub between : {S : Type 0} → Office S → Option (List (List ℕ)) → Option (List Ended) → Between S
between office awaited ended = record { office = office; awaited = awaited; ended = ended }

-- One connection more came, with these bytes, and was told the response to them, at such a moment: all of it, or a
-- beginning of it. Or a read failed, it was told nothing, and nothing was done.
abbrev pub IsConnection : {S : Type 0} → Ghosts S → (ℕ → Type 0) → Between S → Between S → Type 0
IsConnection g IsMoment before after =
    (bytes : Option (List ℕ)) × Brings before.awaited after.awaited bytes
    × (((at : ℕ) × IsMoment at × (response : Response)
    × ((EndsTold before.ended after.ended (response_bytes response)
    × IsExchange g before.office at bytes response delivered after.office)
    ⊎ (EndsCutOff before.ended after.ended (response_bytes response)
    × IsExchange g before.office at bytes response undelivered after.office)))
    ⊎ (EndsUnread before.ended after.ended × (after.office ≡ before.office)))

-- connections one after the other, each with how it stands after it
abbrev pub AreConnections : {S : Type 0} → Ghosts S → (ℕ → Type 0) → Between S → List (Between S) → Between S
    → Type 0
AreConnections g IsMoment first [] last = last ≡ first
AreConnections g IsMoment first (next ∷ behind) last =
    IsConnection g IsMoment first next × AreConnections g IsMoment next behind last

-- What a request made of an office, whose response was this, delivered or not: nothing; or one attempt at this moment,
-- with the fate of which the response tells.
abbrev pub AreOfResponse : {S : Type 0} → Office S → Office S → ℕ → Response → (Fate → Fate) → List Attempt → Type 0
AreOfResponse before after at response delivery attempts =
    ((attempts ≡ []) × (after ≡ before))
    ⊎ ((act : Act) × (fate : Fate) × TellsOf before response after fate
    × (attempts ≡ record { command = (at, act); fate = delivery fate } ∷ []))

-- What a connection made: what its request made, by the response of which it was told all, or a beginning; or nothing,
-- where it was told nothing.
abbrev pub AreOfConnection : {S : Type 0} → (ℕ → Type 0) → Between S → Between S → List Attempt → Type 0
AreOfConnection IsMoment before after attempts =
    ((at : ℕ) × IsMoment at × (response : Response)
    × ((EndsTold before.ended after.ended (response_bytes response)
    × AreOfResponse before.office after.office at response delivered attempts)
    ⊎ (EndsCutOff before.ended after.ended (response_bytes response)
    × AreOfResponse before.office after.office at response undelivered attempts)))
    ⊎ (EndsUnread before.ended after.ended × (attempts ≡ []))

-- what connections made, one after the other
abbrev pub AreOfAll : {S : Type 0} → (ℕ → Type 0) → Between S → List (Between S) → List Attempt → Type 0
AreOfAll IsMoment first [] attempts = attempts ≡ []
AreOfAll IsMoment first (next ∷ behind) attempts =
    (now : List Attempt) × (later : List Attempt) × (attempts ≡ now ++ later)
    × AreOfConnection IsMoment first next now × AreOfAll IsMoment next behind later

-- There were as many of them as that, and the office is open after the last: where there was none, it is as it was.
abbrev pub AreAll : {S : Type 0} → ℕ → List (Between S) → Office S → Type 0
AreAll count betweens after = (length betweens ≡ count) × ((count ≡ 0) ⊎ IsSome after.desk)

-- Connections at such moments are attempts of the crash prefix: those that each of them was told of.
abbrev pub ConnectionsAreCalls : {S : Type 0} → Ghosts S → (ℕ → Type 0) → Type 0
ConnectionsAreCalls {S} g IsMoment = (first last : Between S) (betweens : List (Between S))
    → AreConnections g IsMoment first betweens last
    → (attempts : List Attempt) × AreMade g first.office attempts last.office
    × AreOfAll IsMoment first betweens attempts
