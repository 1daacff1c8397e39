-- A text that is said on error output piece by piece.
use Rattle.std.proofs.Common.{◌≡◌, ◌∙◌, ℕ, ◌+◌, ◌<◌, ◌≤◌, List, [], ◌++◌, add-one, drop-cons, length, drop, get_or, Option, Some, length-append, ap, sym, subst, inl, inr, refl, arith}
use Rattle.std.proofs.Math.Seq.{take-append-add}
use Rattle.std.proofs.lemmas.List.{drop_all, take-append-le}
use Rattle.std.specs.List.{flat_map}
use Rattle.std.specs.Io.KnownBytes.{Appends}
use Rattle.std.proofs.KnownBytes.{Appends-nil, Appends-trans}
use Rattle.gr_http.specs.Streams.{AppendsBeginning}
use Rattle.gr_desk.specs.ErrorOutput.{Says}

-- a beginning of the rest after a piece that was written whole is one of both
begins_behind : (old mid new : Option (List ℕ)) (piece rest : List ℕ) → Appends old mid piece → AppendsBeginning mid new rest
    → AppendsBeginning old new (piece ++ rest)
begins_behind old mid new piece rest whole (n, less, begun) =
    let both = length-append piece rest in (
      length piece + n,
      omega (arith, both, less),
      subst (Appends old new) (sym (take-append-add piece rest n)) (Appends-trans old mid new _ _ whole begun),
    )

-- so is one of the piece itself
begins_before : (old new : Option (List ℕ)) (piece rest : List ℕ) → AppendsBeginning old new piece
    → AppendsBeginning old new (piece ++ rest)
begins_before old new piece rest (n, less, begun) =
    let both = length-append piece rest in (
      n,
      omega (arith, both, less),
      subst (Appends old new) (sym (take-append-le n piece rest (omega (arith, less)))) begun,
    )

-- a piece was written whole, and then the rest was said
said_then : (old mid new : Option (List ℕ)) (before between after : ℕ) (piece rest : List ℕ)
    → Appends old mid piece → between ≡ before → Says mid new between after (Some rest)
    → Says old new before after (Some (piece ++ rest))
said_then old mid new before between after piece rest whole same (inl (more, none)) =
    inl (Appends-trans old mid new _ _ whole more, none ∙ same)
said_then old mid new before between after piece rest whole same (inr (begun, one)) =
    inr (begins_behind old mid new piece rest whole begun, one ∙ ap (λ n. n + 1) same)

-- a write failed in a piece, and the rest was left out
said_in_part : (old new : Option (List ℕ)) (before after : ℕ) (piece rest : List ℕ)
    → AppendsBeginning old new piece → after ≡ before + 1 → Says old new before after (Some (piece ++ rest))
said_in_part old new before after piece rest begun one = inr (begins_before old new piece rest begun, one)

-- ==== pieces in a list

-- the text of the pieces that are left is that of the next one, and then that of the others
next_piece : {A : Type 0} (f : A → List ℕ) (pieces : List A) (i : ℕ) (d : A) → i < length pieces
    → flat_map f (drop i pieces) ≡ f (get_or pieces i d) ++ flat_map f (drop (i + 1) pieces)
next_piece f pieces i d less = rw (add-one, drop-cons pieces i d)

module _ {A : Type 0} (f : A → List ℕ) (pieces : List A) (i : ℕ) (d : A) (piece : List ℕ) where
  -- the next piece was written whole, and then the others were said
  pub said_next : (old mid new : Option (List ℕ)) (before between after : ℕ) → i < length pieces
      → piece ≡ f (get_or pieces i d) → Appends old mid piece → between ≡ before
      → Says mid new between after (Some (flat_map f (drop (i + 1) pieces)))
      → Says old new before after (Some (flat_map f (drop i pieces)))
  said_next old mid new before between after less is whole same says =
      subst (λ text. Says old new before after (Some text)) (sym (next_piece f pieces i d less))
      (said_then old mid new before between after _ _ (subst (Appends old mid) is whole) same says)

  -- a write failed in it, and the others were left out
  pub said_no_further : (old new : Option (List ℕ)) (before after : ℕ) → i < length pieces → piece ≡ f (get_or pieces i d)
      → AppendsBeginning old new piece → after ≡ before + 1
      → Says old new before after (Some (flat_map f (drop i pieces)))
  said_no_further old new before after less is begun one =
      subst (λ text. Says old new before after (Some text)) (sym (next_piece f pieces i d less))
      (said_in_part old new before after _ _ (subst (AppendsBeginning old new) is begun) one)

-- no piece is left
pub said_all : {A : Type 0} (f : A → List ℕ) (pieces : List A) (i : ℕ) (old : Option (List ℕ)) (before : ℕ)
    → length pieces ≤ i → Says old old before before (Some (flat_map f (drop i pieces)))
said_all f pieces i old before over =
    let none : drop i pieces ≡ [] = drop_all i pieces over in
    subst (λ rest. Says old old before before (Some (flat_map f rest))) (sym none) (inl (Appends-nil old, refl))
