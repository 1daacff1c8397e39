-- What the counting looks at, and the options that it keeps. Constitution, A.5.2 to A.5.4.
use Rattle.std.specs.Prelude.{◌≡◌, ℕ, ◌<◌, ◌⊎◌, IsTrue}
use Rattle.gr_count.specs.Threshold.{meets_quorum, meets_majority}

-- What is counted.
-- Options are numbers from 0, and the default option is the last of them (this project's profile).
pub record Election : Type 0 where
  -- D, the default option (Constitution, A.5.3.2)
  pub default : ℕ
  -- V(A,B), how many voters prefer A to B (Constitution, A.5.3.1)
  pub preference : ℕ → ℕ → ℕ
  -- n, how many developers were current (Constitution, 4.2.7)
  pub developers : ℕ
  -- the majority ratio that an option needs (Constitution, A.5.3.3)
  pub ratio : ℕ → ℕ

-- As many voters as the quorum prefer the option to the default one (Constitution, A.5.2).
abbrev pub HasQuorum : Election → ℕ → Type 0
HasQuorum e a = IsTrue (meets_quorum (e.preference a e.default) e.developers)

-- The option defeats the default one by its majority ratio (Constitution, A.5.3.2).
abbrev pub HasMajority : Election → ℕ → Type 0
HasMajority e a = IsTrue (meets_majority (e.preference a e.default) (e.preference e.default a) (e.ratio a))

-- An option is kept if it is the default one, or if it has the quorum and its majority (Constitution, A.5.2 and A.5.3).
abbrev pub IsKept : Election → ℕ → Type 0
IsKept e a = (a ≡ e.default) ⊎ ((a < e.default) × HasQuorum e a × HasMajority e a)

-- Of two kept options A defeats B where those who prefer A to B are more than those who prefer B to A
-- (Constitution, A.5.4.1).
abbrev pub Defeats : Election → ℕ → ℕ → Type 0
Defeats e a b = IsKept e a × IsKept e b × (e.preference b a < e.preference a b)
