-- What a connection shows, and what a crash may leave of it.
use Rattle.std.specs.Prelude.{◌≡◌, false, IsTrue}
use Rattle.sqlite_trees.specs.Tree.{Trees}
use Rattle.sqlite.specs.State.{State, HasCleanDisk, Survives}

-- it is open outside a transaction, and a crash leaves what it shows and nothing else
pub record IsSettled (s : State) : Type 0 where
  pub is_open : IsTrue s.is_open
  pub outside : s.in_transaction ≡ false
  pub committed : s.committed ≡ s.now
  pub only : (trees : Trees) → s.may_leave trees → trees ≡ s.now.trees

-- A crash leaves nothing that it did not leave before. A settled connection is settled, and shows what it showed,
-- unless a failure of the disk shut it.
pub record WritesNothing (old new : State) : Type 0 where
  pub leaves : Survives old new (λ _. ⊥)
  pub was_open : HasCleanDisk new → IsTrue new.is_open → IsTrue old.is_open
  pub stays : HasCleanDisk new → IsTrue new.is_open → IsSettled old → IsSettled new × (new.now ≡ old.now)
