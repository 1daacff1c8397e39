-- What a line asks of a host behind its own.
use Rattle.std.proofs.Common.{◌≡◌, ap, refl}
use Rattle.gr_desk.specs.declared.line.Line.{Line}
use Rattle.gr_desk.specs.declared.line.Line.TheVariants.{Import, Init, Migrate, Once, Serve, Show}
use Rattle.gr_desk.specs.Host.{Behind}
use Rattle.gr_desk.specs.Program.{LineAsksBehind}

-- by whatever reference it is reached
pub by_any_name : (line : Line) (was now : Behind) → LineAsksBehind line was now
    → LineAsksBehind line (record was { name = 0 }) (record now { name = 0 })
by_any_name (Init file has_sums) was now same = ap {A = Behind} (λ it. record it { name = 0 }) same
by_any_name (Once file at) was now same = ap {A = Behind} (λ it. record it { name = 0 }) same
by_any_name (Serve file port count at) was now (files, asks, name) = (files, asks, refl)
by_any_name (Import file roll at) was now (files, asks, name) = (files, asks, refl)
by_any_name (Show file kind number) was now same = ap {A = Behind} (λ it. record it { name = 0 }) same
by_any_name (Migrate file) was now same = ap {A = Behind} (λ it. record it { name = 0 }) same

-- which stays
pub same_name : (line : Line) (was now : Behind) → LineAsksBehind line was now → now.name ≡ was.name
same_name (Init file has_sums) was now same = ap {A = Behind} (λ it. it.name) same
same_name (Once file at) was now same = ap {A = Behind} (λ it. it.name) same
same_name (Serve file port count at) was now asks = asks.2
same_name (Import file roll at) was now asks = asks.2
same_name (Show file kind number) was now same = ap {A = Behind} (λ it. it.name) same
same_name (Migrate file) was now same = ap {A = Behind} (λ it. it.name) same
