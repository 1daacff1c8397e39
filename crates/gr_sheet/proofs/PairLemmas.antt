-- The pairs of options.
use Rattle.std.proofs.Common.{ℕ, ◌<◌, List, [], ◌∷◌, arith}
use Rattle.std.specs.List.{All, flat_map}
use Rattle.std.proofs.lemmas.List.Elements.{All-nil, All-head, All-tail, All-append, All-map, All-weaker}
use Rattle.std.proofs.lemmas.List.FromFn.{length-range_with_len, get_or-range_with_len}
use Rattle.gr_count.specs.Options.{options_below}
use Rattle.gr_sheet.specs.ResultSheet.{IsPairBelow, pairs_from, pairs_below}

All-flat_map : {X Y : Type 0} (P : X → Type 0) (Q : Y → Type 0) (f : X → List Y) (each : (x : X) → P x → All Q (f x)) (xs : List X)
    → All P xs → All Q (flat_map f xs)
All-flat_map P Q f each [] are = All-nil Q
All-flat_map P Q f each (x ∷ xs) are =
    All-append Q (f x) (flat_map f xs) (each x (All-head P x xs are)) (All-flat_map P Q f each xs (All-tail P x xs are))

options_are_below : (options : ℕ) → All (λ option. option < options) (options_below options)
options_are_below options k d here =
    let inside : k < options = omega (arith, length-range_with_len 0 options) in
    let is = get_or-range_with_len 0 options k d inside in
    omega arith

-- both options of each pair are among them
pub pairs_are_below : (options : ℕ) → All (IsPairBelow options) (pairs_below options)
pairs_are_below options =
    All-flat_map (λ first. first < options) (IsPairBelow options) (pairs_from options)
    (λ first inside. All-map (IsPairBelow options) (λ second. record { first = first; second = second }) (options_below options)
    (All-weaker (λ second. second < options) (λ second. IsPairBelow options (record { first = first; second = second }))
    (λ second there. (inside, there)) (options_below options) (options_are_below options)))
    (options_below options) (options_are_below options)
