-- A resolution by its stage (this project's profile): the discussion and the poll that it has.
use Rattle.std.specs.Prelude.{ℕ, ◌+◌, ◌*◌, Bool, true, false, ℤ, pos, Option, Some, None, is_some}
use Rattle.gr_core.specs.declared.limits.TheConstants.{DAY}
use Rattle.gr_core.specs.declared.discussion.Discussion.{Discussion}
use Rattle.gr_core.specs.declared.resolution.Poll.{Poll}
use Rattle.gr_core.specs.declared.resolution.Resolution.{Resolution}
use Rattle.gr_core.specs.declared.resolution.Resolution.TheVariants.{Draft, Discussing, Voting, Closed, Cancelled}

-- the discussion that is or was: a draft has none yet (Constitution, A.1.1)
abbrev pub discussion_of : Resolution → Option Discussion
discussion_of Draft = None
discussion_of (Discussing discussion) = Some discussion
discussion_of (Voting discussion poll) = Some discussion
discussion_of (Closed discussion poll chosen) = Some discussion
discussion_of (Cancelled discussion) = Some discussion

-- the discussion, as long as no vote was called for
abbrev pub present_discussion : Resolution → Option Discussion
present_discussion (Discussing discussion) = Some discussion
present_discussion other = None

-- it is under discussion, or its discussion is over and the call awaited
abbrev pub is_discussing : Resolution → Bool
is_discussing resolution = is_some (present_discussion resolution)

-- the poll that is held or was
abbrev pub poll_of : Resolution → Option Poll
poll_of (Voting discussion poll) = Some poll
poll_of (Closed discussion poll chosen) = Some poll
poll_of other = None

-- the poll, as long as it is held
abbrev pub present_poll : Resolution → Option Poll
present_poll (Voting discussion poll) = Some poll
present_poll other = None

-- votes are taken on it, or their time is over and the close awaited
abbrev pub is_voting : Resolution → Bool
is_voting resolution = is_some (present_poll resolution)

-- the place that a casting vote chose (Constitution, A.5.8)
abbrev pub chosen_of : Resolution → Option ℕ
chosen_of (Closed discussion poll chosen) = chosen
chosen_of other = None

-- when no more votes are taken in it (Constitution, 4.2.3)
abbrev pub end_of_voting : Poll → ℕ
end_of_voting poll = poll.called + poll.days * DAY

-- it is not called yet
abbrev pub is_open : Resolution → Bool
is_open Draft = true
is_open (Discussing discussion) = true
is_open other = false

abbrev pub is_closed : Resolution → Bool
is_closed (Closed discussion poll chosen) = true
is_closed other = false

-- a discussion that begins at this moment
abbrev pub begun : ℕ → Resolution
begun at = Discussing (record { start = at; changed = None; shift = pos 0 })

-- a change of the ballot, from which the end is counted anew (Constitution, A.1.4)
abbrev pub changed : ℕ → Resolution → Resolution
changed at (Discussing discussion) = Discussing (record discussion { changed = Some at })
changed at other = other

-- a choice is introduced: the first one begins the discussion (Constitution, A.1.1), each later one changes the
-- ballot (Constitution, A.1.4)
abbrev pub entered : ℕ → Resolution → Resolution
entered at Draft = begun at
entered at other = changed at other

-- the lengths of the discussion are varied (Constitution, A.1.6)
abbrev pub shifted : ℤ → Resolution → Resolution
shifted days (Discussing discussion) = Discussing (record discussion { shift = days })
shifted days other = other

-- the vote is over (Constitution, 4.2.3)
abbrev pub closed : Resolution → Resolution
closed (Voting discussion poll) = Closed discussion poll None
closed other = other

-- a casting vote chose this place (Constitution, A.5.8)
abbrev pub decided : ℕ → Resolution → Resolution
decided place (Closed discussion poll chosen) = Closed discussion poll (Some place)
decided place other = other
