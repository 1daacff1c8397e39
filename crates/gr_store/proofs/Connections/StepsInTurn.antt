-- One step after another: what a crash may leave of both, what is shown still, and that nothing is written.
use Rattle.std.proofs.Common.{◌≡◌, inl, true, refl, ◌∙◌, subst, sym, arith}
use Rattle.sqlite.specs.State.{State, HasCleanDisk, IsUnchanged, Survives}
use Rattle.sqlite.proofs.StateLemmas.{survives_then}
use Rattle.sqlite_trees.specs.Tree.{Trees}
use Rattle.gr_store.specs.Content.{WritesNothing}

-- a disk that is clean was so before
pub was_clean : (old new : State) (P : Trees → Type 0) → Survives old new P → HasCleanDisk new → HasCleanDisk old
was_clean old new P survives clean = let less = survives.clean in omega arith

-- where nothing was done, nothing is left
pub survives_same : (s : State) (P : Trees → Type 0) → Survives s s P
survives_same s P = record {
  clean = omega arith;
  shield = λ shielded. shielded;
  counts = omega arith;
  limit = refl;
  closes = λ clean live. inl live;
  crash = λ clean db may. inl may;
}

-- what is so from inside a transaction on is so from its beginning
pub survives_begun : (old new : State) (P : Trees → Type 0) → Survives (record old { in_transaction = true }) new P
    → Survives old new P
survives_begun old new P inside = record {
  clean = inside.clean;
  shield = inside.shield;
  counts = inside.counts;
  limit = inside.limit;
  closes = inside.closes;
  crash = inside.crash;
}

-- A transaction that was begun leaves nothing, and its commit leaves what it shows: of the two, the latter.
pub committed : (old done new : State) (P : Trees → Type 0) → Survives old done (λ _. ⊥)
    → Survives done new (λ db. db ≡ done.now.trees) → (HasCleanDisk done → P done.now.trees) → Survives old new P
committed old done new P begun ended held =
    survives_then old done new (λ _. ⊥) (λ db. db ≡ done.now.trees) P (λ _ db none. absurd none)
    (λ clean db is. subst P (sym is) (held (was_clean done new (λ db. db ≡ done.now.trees) ended clean))) begun ended

-- what is shown is as it was
abbrev pub IsKept : State → State → Type 0
IsKept old new = HasCleanDisk new → new.now ≡ old.now

pub kept_first : (s : State) → IsKept s s
kept_first s clean = refl

pub kept_then : (old mid new : State) → IsKept old mid → WritesNothing mid new → (HasCleanDisk new → IsUnchanged mid new) → IsKept old new
kept_then old mid new kept none same clean = (same clean).0.now_is ∙ kept (was_clean mid new (λ _. ⊥) none.leaves clean)

-- where nothing was done, nothing was written
pub writes_none : (s : State) → WritesNothing s s
writes_none s = record {
  leaves = survives_same s (λ _. ⊥);
  was_open = λ clean live. live;
  stays = λ clean live settled. (settled, refl);
}

-- one thing after the other that writes nothing
pub writes_then : (old mid new : State) → WritesNothing old mid → WritesNothing mid new → WritesNothing old new
writes_then old mid new first second = record {
  leaves = survives_then old mid new (λ _. ⊥) (λ _. ⊥) (λ _. ⊥) (λ _ db none. none) (λ _ db none. none) first.leaves second.leaves;
  was_open = λ clean live. first.was_open (back clean) (second.was_open clean live);
  stays = λ clean live settled.
      let before = first.stays (back clean) (second.was_open clean live) settled in
      let after = second.stays clean live before.0 in
      (after.0, after.1 ∙ before.1);
}
  where
    back : HasCleanDisk new → HasCleanDisk mid
    back = was_clean mid new (λ _. ⊥) second.leaves
