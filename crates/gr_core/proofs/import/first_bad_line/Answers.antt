use Rattle.std.proofs.Common.{◌≡◌, ◌+◌, ◌≤◌, map, take, drop, length, ◌∷◌, ◌++◌, get_or, inl, inr, true, false, sym, ap, subst, ◌∙◌, refl, arith}
use Rattle.std.proofs.lemmas.List.{map_more, map-append, take-append-drop, drop_more, take_all, length-map, length-take-le}
use Rattle.gr_core.specs.Machine.Import.{roll_row, HasNoBadRow, IsBadRow}
use Rattle.gr_core.proofs.Effects.ImportLemmas.{no_bad_row-nil, no_bad_row-more, highest_read, highest_next}
use Rattle.gr_core.proofs.import.first_bad_line.Goals as goal
use Rattle.gr_core.proofs.import.first_bad_line.Goals.{then-is_above, else-is_above}

pub loop-index-init : goal.loop-index-init
loop-index-init c = (no_bad_row-nil, omega arith, λ row at. tt)

pub returns-then-is_bad_behind-clause-some : goal.returns-then-is_bad_behind-clause-some
returns-then-is_bad_behind-clause-some c =
    let rows = c.args.rows.now in
    let k = c.loop-index.index in
    let row = c.index-rows-index.result in
    let within : k ≤ length rows = omega (arith, c.loop-index-test.true) in
    let before = length-map (take k rows) roll_row ∙ length-take-le k rows within in
    record {
      others = map roll_row (take k rows);
      behind = record {
        row = roll_row row;
        later = map roll_row (drop (k + 1) rows);
        whole =
            ap (map roll_row) (sym (take-append-drop k rows) ∙ ap (λ rest. take k rows ++ rest) (drop_more rows k row c.loop-index-test.true
            ∙ ap (λ r. r ∷ drop (k + 1) rows) (sym c.index-rows-index.is)))
            ∙ map-append roll_row (take k rows) (row ∷ drop (k + 1) rows);
        bad = c.if-is_bad_behind.ensures.0 refl;
      };
      first = c.loop-index.invariant.0;
      line_is = omega arith;
    }

pub is_bad_behind-requires : goal.is_bad_behind-requires
is_bad_behind-requires c =
    highest_read c.args.rows.now c.loop-index.index c.loop-index.highest c.index-rows-highest.result c.loop-index-test.true
    c.loop-index.invariant.1 c.index-rows-highest.is c.loop-index.invariant.2

pub loop-index-preserved : goal.loop-index-preserved
loop-index-preserved c =
    let rows = c.args.rows.now in
    let k = c.loop-index.index in
    let row = c.index-rows-index.result in
    let highest = c.loop-index.highest in
    let next = c.if-is_above.highest in
    let within = c.loop-index.invariant.1 in
    let good : ¬ (IsBadRow (map roll_row (take k rows)) (roll_row row)) = λ bad. (let never : false ≡ true = c.if-is_bad_behind.ensures.1 bad in cc) in
    let going = highest_next rows k highest next row c.index-rows-highest-in-loop-index.result c.loop-index-test.true c.index-rows-index.is within
    c.index-rows-highest-in-loop-index.is c.loop-index.invariant.2 in (
      subst HasNoBadRow (sym (map_more roll_row rows k row c.loop-index-test.true))
          (no_bad_row-more (map roll_row (take k rows)) (roll_row (get_or rows k row)) c.loop-index.invariant.0
          (subst (λ r. ¬ (IsBadRow (map roll_row (take k rows)) (roll_row r))) c.index-rows-index.is good)),
      elim c.if-is_above.branch [
        | then-is_above w ↦ (let is : next ≡ k = w.highest-is in omega (arith, is))
        | else-is_above w ↦ (let is : next ≡ highest = w.highest-is in omega (arith, is, within))
      ],
      elim c.if-is_above.branch [
        | then-is_above w ↦ going (inl (w.highest-is, w.if-is_above.ensures.0 refl))
        | else-is_above w ↦ going (inr (w.highest-is, λ above. (let never : false ≡ true = w.if-is_above.ensures.1 above in cc)))
      ],
    )

pub returns-clause-none : goal.returns-clause-none
returns-clause-none c =
    subst (λ rows. HasNoBadRow (map roll_row rows)) (take_all c.loop-index.index c.args.rows.now c.loop-index-test.false) c.loop-index.invariant.0
