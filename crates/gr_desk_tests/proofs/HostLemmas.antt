-- What stays known of a machine with one file.
use Rattle.std.proofs.Common.{◌≡◌, ◌≢◌, ◌∙◌, ◌&&◌, ℕ, Bool, true, false, List, Option, None, Some, IsTrue, ap, inl, inr, refl, subst, sym}
use Rattle.std.specs.Prelude.{◌⊎◌, ⊤, MatchOption, option_map, if◌then◌else◌}
use Rattle.std.specs.Str.{bytes_eq}
use Rattle.std.proofs.lemmas.Slice.Eq.{bytes_eq-Decides}
use Rattle.sqlite.specs.Held.{Held}
use Rattle.sqlite_trees.specs.declared.store.Store.{Ghosts}
use Rattle.sqlite_wal.specs.Recovery.{Image}
use Rattle.gr_desk.specs.declared.ending.Ending.{Ending}
use Rattle.gr_desk.specs.declared.ending.Ending.TheVariants as ending
use Rattle.gr_desk.specs.Host.{Bytes, Content}
use Rattle.gr_desk.specs.Life.{IsLeftOf, IsNext}

-- while a connection is lent, what is known of other names was known of them
pub lent : {A B : Type 0} (is_its : Bool) (f : A → B) (now : Option A) (files : Option B) (other : B) → now ≡ None
    → MatchOption (if is_its then option_map f now else Some other) ⊤
    (λ it. (if is_its then files else Some other) ≡ Some it)
lent true f now files other none = subst (λ o. MatchOption (option_map f o) ⊤ (λ it. files ≡ Some it)) (sym none) tt
lent false f now files other none = refl

-- another name than that of a file that has this one is not this one
pub other_name : (name file its : List ℕ) → bytes_eq file its ≡ true → name ≢ file → bytes_eq name its ≡ false
other_name name file its same other = go (bytes_eq name its) refl
  where
    go : (b : Bool) → bytes_eq name its ≡ b → b ≡ false
    go true is = absurd (other ((bytes_eq-Decides name its).0 is ∙ sym ((bytes_eq-Decides file its).0 same)))
    go false is = refl

-- under another name nothing is there before the file is made and after
pub none_there : (was is : Bool) (name file its : List ℕ) → bytes_eq file its ≡ true → name ≢ file
    → Some (is && bytes_eq name its) ≡ Some (was && bytes_eq name its)
none_there was is name file its same other =
    let none = other_name name file its same other in
    ap Some (ap (λ b. is && b) none ∙ never is was ∙ sym (ap (λ b. was && b) none))
  where
    never : (a b : Bool) → (a && false) ≡ (b && false)
    never true true = refl
    never true false = refl
    never false true = refl
    never false false = refl

-- under the name of the file is what the file has
pub its_content : {A : Type 0} (is_its : Bool) (its other : A) → is_its ≡ true → (if is_its then Some its else Some other) ≡ Some its
its_content is_its its other same = ap (λ b. if b then Some its else Some other) same

-- two disks that told no lie
pub both_clean : (a b : Bool) → IsTrue a → IsTrue b → IsTrue (a && b)
both_clean a b one other = ap (λ it. it && b) one ∙ other

-- what is left in files is left where these have the same contents
pub left_after : {S : Type 0} (g : Ghosts S) (conn : Held S) (now was : Image) → now ≡ was → IsLeftOf g conn was → IsLeftOf g conn now
left_after g conn now was same left = subst (λ image. IsLeftOf g conn image) (sym same) left

-- what the next line finds after a connection
pub next_of_left : {S : Type 0} (g : Ghosts S) (found : Content) (image : Image) (was result : Ending S) (conn kept : Held S)
    → result ≡ was → (result ≡ ending.Close conn) ⊎ (result ≡ ending.LetGo conn) → kept ≡ conn → IsLeftOf g kept image
    → IsNext g found was (Bytes image)
next_of_left g found image was result conn kept is (inl closes) same left =
    subst (λ it. IsNext g found it (Bytes image)) (sym closes ∙ is) (image, refl, subst (λ c. IsLeftOf g c image) same left)
next_of_left g found image was result conn kept is (inr lets_go) same left =
    subst (λ it. IsNext g found it (Bytes image)) (sym lets_go ∙ is) (image, refl, subst (λ c. IsLeftOf g c image) same left)

-- what is said of the content that is known of the one file is said of what the files hold
pub of_its_content : {A B : Type 0} (P : Option B → Type 0) (is_its : Bool) (f : A → B) (files : Option A) (it : A)
    (other : Option B) → is_its ≡ true → files ≡ Some it → P (Some (f it))
    → P (if is_its then option_map f files else other)
of_its_content P is_its f files it other its has given =
    subst (λ (b : Bool). P (if b then option_map f files else other)) (sym its)
    (subst (λ o. P (option_map f o)) (sym has) given)
