-- Errors that a function hands on.
use Rattle.std.proofs.Common.{◌≡◌, ◌⊎◌, Result, Ok, Err, inl, inr, ap}
use Rattle.std.specs.Result.{IsErrAnd}
use Rattle.gr_store.specs.declared.fault.Fault.{Fault}
use Rattle.gr_store.specs.declared.store.NotOpened.{NotOpened}
use Rattle.sqlite.specs.Held.{Held}

-- an error that is this one makes the result
pub is_error : {X E : Type 0} (result : Result X E) (e : E) → IsErrAnd result (λ error. error ≡ e) → result ≡ Err e
is_error (Ok value) e never = absurd never
is_error (Err error) e is = ap Err is

-- of two causes the one that can be
pub or_never : {P Q : Type 0} → ¬ Q → P ⊎ Q → P
or_never never (inl is) = is
or_never never (inr is) = absurd (never is)

-- the answer is this one
pub told_so : {S X : Type 0} (e : NotOpened S) (conn : Held S) (fault : Fault)
    → (let told : Result X (NotOpened S) = Err e in told ≡ Err (record { conn = conn; fault = fault }))
    → (e.fault ≡ fault) × (e.conn ≡ conn)
told_so e conn fault is =
    let same : e ≡ record { conn = conn; fault = fault } = cc in (ap (λ x. x.fault) same, ap (λ x. x.conn) same)
