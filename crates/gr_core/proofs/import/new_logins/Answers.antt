use Rattle.std.proofs.Common.{◌≡◌, ◌+◌, ◌≤◌, Bool, true, false, cond, map, take, get_or, inl, inr, refl, sym, ap, ◌∙◌, arith}
use Rattle.std.specs.FinMap.{len}
use Rattle.std.proofs.lemmas.List.{map_more, take_all}
use Rattle.gr_core.specs.Machine.Import.{roll_row, imported, is_new}
use Rattle.gr_core.proofs.Effects.ImportLemmas.{len-imported-more, highest_read, highest_next}
use Rattle.gr_core.proofs.import.new_logins.Goals as goal
use Rattle.gr_core.proofs.import.new_logins.Goals.{then-is_new, else-is_new, then-is_above, else-is_above}

pub loop-index-init : goal.loop-index-init
loop-index-init c = (omega arith, omega arith, omega arith, λ row at. tt)

pub is_new-requires : goal.is_new-requires
is_new-requires c =
    highest_read c.args.rows.now c.loop-index.index c.loop-index.highest c.index-rows-highest.result c.loop-index-test.true
    c.loop-index.invariant.2 c.index-rows-highest.is c.loop-index.invariant.3

pub loop-index-preserved : goal.loop-index-preserved
loop-index-preserved c =
    let rows = c.args.rows.now in
    let roll = c.args.roll.now in
    let k = c.loop-index.index in
    let row = c.index-rows-index.result in
    let sum = c.loop-index.invariant.0 in
    let few = c.loop-index.invariant.1 in
    let before = len (imported roll (map roll_row (take k rows))) in
    let after = len (imported roll (map roll_row (take (k + 1) rows))) in
    let more : (b : Bool) → c.is_new.result ≡ b → after ≡ before + cond b 1 0 = λ b is.
    ap (λ rs. len (imported roll rs)) (map_more roll_row rows k row c.loop-index-test.true)
    ∙ len-imported-more roll (map roll_row (take k rows)) (roll_row (get_or rows k row))
    ∙ ap (λ r. before + cond (is_new roll (map roll_row (take k rows)) (roll_row r)) 1 0) (sym c.index-rows-index.is)
    ∙ ap (λ b. before + cond b 1 0) (sym c.is_new.ensures ∙ is)
    in
    let highest = c.loop-index.highest in
    let next = c.if-is_above.highest in
    let within = c.loop-index.invariant.2 in
    let going = highest_next rows k highest next row c.index-rows-highest-in-loop-index.result c.loop-index-test.true c.index-rows-index.is within
    c.index-rows-highest-in-loop-index.is c.loop-index.invariant.3 in
    let counted : (len roll + c.if-is_new.count ≡ after) × (c.if-is_new.count ≤ k + 1) =
    elim c.if-is_new.branch [
      | then-is_new w ↦
          let one : after ≡ before + 1 = more true w.if-is_new.true in
          let is : c.if-is_new.count ≡ c.loop-index.count + 1 = w.count-is in
          (omega arith, omega arith)
      | else-is_new w ↦
          let none : after ≡ before + 0 = more false w.if-is_new.false in
          let is : c.if-is_new.count ≡ c.loop-index.count = w.count-is in
          (omega arith, omega arith)
    ] in (
      counted.0,
      counted.1,
      elim c.if-is_above.branch [
        | then-is_above w ↦ (let is : next ≡ k = w.highest-is in omega (arith, is))
        | else-is_above w ↦ (let is : next ≡ highest = w.highest-is in omega (arith, is, within))
      ],
      elim c.if-is_above.branch [
        | then-is_above w ↦ going (inl (w.highest-is, w.if-is_above.ensures.0 refl))
        | else-is_above w ↦ going (inr (w.highest-is, λ above. (let never : false ≡ true = w.if-is_above.ensures.1 above in cc)))
      ],
    )

pub returns : goal.returns
returns c =
    c.loop-index.invariant.0
    ∙ ap (λ rows. len (imported c.args.roll.now (map roll_row rows))) (take_all c.loop-index.index c.args.rows.now c.loop-index-test.false)
