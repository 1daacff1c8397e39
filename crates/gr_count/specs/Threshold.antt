-- Thresholds, in whole numbers. Constitution, 4.2.4, 4.2.7 and A.5.3.2.
-- Let n be the number of current developers: Q = √n / 2, and K is the lesser of Q and its cap.
-- No number is rounded: s ≥ Q says that 2s ≥ √n, which is 4s² ≥ n, and v ≥ 3Q says that 4v² ≥ 9n.
-- They are tests, so that each formula stands once and a result shows what it says. HasQuorum and
-- HasMajority of Election say it of an option as a fact.
use Rattle.std.specs.Prelude.{ℕ, ◌*◌, Bool, ◌&&◌, ◌||◌, nat_le, nat_lt}
use Rattle.gr_count.specs.declared.limits.TheConstants.{MAX_REQUIRED_SPONSORS}

-- so many sponsors are at least K (Constitution, 4.2.7)
abbrev pub are_enough : ℕ → ℕ → Bool
are_enough sponsors developers = nat_le MAX_REQUIRED_SPONSORS sponsors || nat_le developers (4 * sponsors * sponsors)

-- so many votes are at least 3Q, the quorum of a general resolution (Constitution, 4.2.4 and 4.2.7)
abbrev pub meets_quorum : ℕ → ℕ → Bool
meets_quorum votes developers = nat_le (9 * developers) (4 * votes * votes)

-- an option that `above` voters prefer to the default option, and `below` voters the other way round,
-- defeats the default option by its majority ratio (Constitution, A.5.3.2)
abbrev pub meets_majority : ℕ → ℕ → ℕ → Bool
meets_majority above below ratio = nat_le (ratio * below) above && nat_lt below above
