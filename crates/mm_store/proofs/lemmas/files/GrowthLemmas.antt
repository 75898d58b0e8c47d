-- The numbers that names have, and what one more file changes.
use Rattle.std.proofs.lemmas.{Grind.{common_steps, elements}, Bool.{ltb-true, ltb-false, lt-ltb, le-ltb, ne_eqb, eq-eqb, false_from_ne_true}, Slice.Eq.{bytes_eq-Decides}}
use Rattle.std.proofs.lemmas.{List.{Elements.{Contains-append_right}, Folds.{position_or_len_push}, Quantifiers.{position-Some}}, Option.{none-some, get_or_from_slice_get, cond_some}}
use Rattle.std.proofs.Common.{◌≡◌, ℕ, zero, suc, ◌<◌, Bool, false, not, ltb, List, [], ◌∷◌, ◌++◌, Some, None, length, refl, subst, arith, length-append, Contains, position, slice_get}
use Rattle.std.specs.{List.{position_or_len}, Str.{bytes_eq}}
use Rattle.mm_store.specs.{declared.item.Item.{Item}, Language.{FilesView.{FileView, number_of}, Expansion.{Placed}}}
use Rattle.mm_store.{specs.Language.Walking.{LevelView, WalkView, IsRest, ArePending, Goes, here, own, again, missing, included, IsWalk, StandsBefore}, proofs.lemmas.expansion.GoesLemmas.{goes_grows}}

module _ {X : Type 0} (test : X → Bool) where
  none_kept : (xs : List X) (y : X) → position test xs ≡ None → test y ≡ false → position test (xs ++ y ∷ []) ≡ None
  none_kept xs y e fails = grind (arith, common_steps, eq-eqb, le-ltb, length-append, ltb-false, position_or_len_push, none-some) steps 200000

there_kept : {X : Type 0} (xs : List X) (y : X) (n : ℕ) (x : X) → slice_get xs n ≡ Some x → slice_get (xs ++ y ∷ []) n ≡ Some x
there_kept (z ∷ xs) y (suc n) x e = there_kept xs y n x e
there_kept xs y n x e = grind (arith, common_steps, none-some) steps 200000

-- a name that has a number has a file
pub there_number : (files : List FileView) (name : List ℕ) (n : ℕ) → number_of files name ≡ Some n → (file : FileView) × (slice_get files n ≡ Some file)
there_number files name n e =
    let h = cond_some (ltb (position_or_len (λ (file : FileView). bytes_eq name file.name) files) (length files)) (position_or_len (λ (file : FileView). bytes_eq name file.name) files) n e in
    there_at files n (omega (arith, ltb-true (position_or_len (λ (file : FileView). bytes_eq name file.name) files) (length files) h.0, h.1)) where
      there_at : (files : List FileView) (n : ℕ) → n < length files → (file : FileView) × (slice_get files n ≡ Some file)
      there_at [] n h = absurd (omega arith)
      there_at (file ∷ files) zero h = (file, refl)
      there_at (file ∷ files) (suc n) h = there_at files n (omega arith)

-- a file has the name under which it is found
pub name_of_number : (files : List FileView) (name : List ℕ) (n : ℕ) (file : FileView) → number_of files name ≡ Some n → slice_get files n ≡ Some file → name ≡ file.name
name_of_number files name n file e there = grind (arith, elements, position-Some, bytes_eq-Decides, get_or_from_slice_get) steps 200000

-- one more file, whose name was not taken
module _ (files : List FileView) (file : FileView) where
  pub number_kept : (name : List ℕ) (n : ℕ) → number_of files name ≡ Some n → number_of (files ++ file ∷ []) name ≡ Some n
  number_kept name n e = grind (arith, common_steps, cond_some, length-append, lt-ltb, ltb-true, ne_eqb, position_or_len_push) steps 200000

  pub file_kept : (n : ℕ) (other : FileView) → slice_get files n ≡ Some other → slice_get (files ++ file ∷ []) n ≡ Some other
  file_kept n other e = there_kept files file n other e

  pub none_stays : (name : List ℕ) → number_of files name ≡ None → (name ≡ file.name → ⊥) → number_of (files ++ file ∷ []) name ≡ None
  none_stays name e other = none_kept (λ (file : FileView). bytes_eq name file.name) files file e (false_from_ne_true (bytes_eq name file.name) (λ t. other ((bytes_eq-Decides name file.name).0 t)))

  rest_kept : (level : LevelView) (parts : List Placed) → IsRest files level parts → IsRest (files ++ file ∷ []) level parts
  rest_kept level parts r = record { file = r.file; there = file_kept level.file r.file r.there; placed = r.placed }

  pub pending_kept : (levels : List LevelView) (parts : List Placed) → ArePending files levels parts → ArePending (files ++ file ∷ []) levels parts
  pending_kept [] parts are = are
  pending_kept (level ∷ inner) parts are = (are.0, are.1, pending_kept inner are.0 are.2, rest_kept level are.1 are.3, are.4)

pub last_in : (names : List (List ℕ)) (name : List ℕ) → Contains (names ++ name ∷ []) name
last_in names name = Contains-append_right names (name ∷ []) name (0, omega arith, refl)

pub goes_kept : {files : List FileView} {parts rest : List Placed} {names after : List (List ℕ)} {items : List Item} (file : FileView)
    → ¬ Contains after file.name → Goes files parts names items rest after → Goes (files ++ file ∷ []) parts names items rest after
goes_kept file new here = here
goes_kept file new (own not d) = own not (goes_kept file new d)
goes_kept file new (again is old d) = again is old (goes_kept file new d)
goes_kept {files} {after = after} file new (missing {part = part} {names = names} is fresh none d) =
    missing is fresh (none_stays files file part.name none (λ e. new (subst (Contains after) e (goes_grows part.name d (last_in names part.name))))) (goes_kept file new d)
goes_kept {files} file new (included {part = part} {number = number} {file = other} inner is fresh at there placed d) =
    included inner is fresh (number_kept files file part.name number at) (file_kept files file number other there) placed (goes_kept file new d)

-- a walk stands before the same reference among more files
pub stands_kept : (files : List FileView) (file : FileView) (walk : WalkView) (part : Placed) → StandsBefore files walk part → StandsBefore (files ++ file ∷ []) walk part
stands_kept files file walk part stands =
    let next = stands.is_next in
    record {
      later = stands.later;
      are_pending = pending_kept files file walk.levels (part ∷ stands.later) stands.are_pending;
      is_inclusion = stands.is_inclusion;
      new = stands.new;
      is_next = grind (arith, common_steps, file_kept files file next.innermost.file next.file next.there) steps 200000;
    }

-- a walk goes on among more files
pub walk_kept : (files : List FileView) (file : FileView) (top : List ℕ) (items : List Item) (walk : WalkView) → IsWalk files top items walk → ¬ Contains walk.names file.name → IsWalk (files ++ file ∷ []) top items walk
walk_kept files file top items walk is new = record {
  number = is.number;
  file = is.file;
  is_top = number_kept files file top is.number is.is_top;
  there = file_kept files file is.number is.file is.there;
  parts = is.parts;
  placed = is.placed;
  pending = is.pending;
  are_pending = pending_kept files file walk.levels is.pending is.are_pending;
  goes = goes_kept file new is.goes;
}
