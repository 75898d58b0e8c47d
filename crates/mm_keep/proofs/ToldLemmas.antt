-- What a base and its files say of one item.
use Rattle.std.proofs.lemmas.{Grind.{common_steps}, Option.{get_or_from_slice_get, same_Some, slice_get_within}}
use Rattle.std.proofs.Common.{◌≡◌, ◌⊎◌, ℕ, suc, ◌+◌, Some, List, [], ◌∷◌, ◌++◌, inl, inr, length-append, length, slice_get, sym, ◌∙◌, ap, subst, arith}
use Rattle.mm_proof.specs.{mm_store.Language.{FilesView.{FilesView}, FileFacts.{CanBeRead, StandsIn}}, mm_frame.{Language.Base.{BaseView, said_at}, declared.base.Base.{Base}}}
use Rattle.mm_proof.specs.mm_statement.Language.{Item.{passed}, Statement.{Says}}
use Rattle.mm_keep.{specs.{Code.{OfFiles.{IsOf, HasItemOf}, KeyedTold.{IsKeyedTold}}, Language.Told.{Told}}, proofs.ZipLemmas.{zip_found}}
use Rattle.mm_proof.specs.mm_store.declared.item.Item as store

-- what it says
pub says_at : (names : List (List ℕ)) (files : FilesView) (code : Base) (view : BaseView) (n : ℕ) (item : store.Item) → IsOf names files code view → slice_get code.items n ≡ Some item → Says files item (said_at view n)
says_at names files code view n item is e =
    let y = zip_found (Says files) code.items view n item is.read_in.each e in
    subst (Says files item) (sym (get_or_from_slice_get view n y.0 passed y.1)) y.2

-- that it can be read
pub read_at : (names : List (List ℕ)) (files : FilesView) (code : Base) (n : ℕ) (item : store.Item) → HasItemOf names files code n → slice_get code.items n ≡ Some item → CanBeRead files item
read_at names files code n item has e = (says_at names files code has.0 n item has.1 e).read

-- that it is where it says
pub stands_at : (names : List (List ℕ)) (files : FilesView) (code : Base) (n : ℕ) (item : store.Item) → HasItemOf names files code n → slice_get code.items n ≡ Some item → StandsIn files item
stands_at names files code n item has e =
    grind (arith, common_steps, get_or_from_slice_get code.items n item item e, slice_get_within code.items n item e) steps 200000

-- ---- what is reported of the items, one after another

-- this many are reported rightly
pub record ToldUpTo (files : FilesView) (found : List store.Item) (view : BaseView) (n : ℕ) (all : List Told) : Type 0 where
  pub count : length all ≡ n
  pub each : (k : ℕ) (one : Told) → slice_get all k ≡ Some one → IsKeyedTold files found view k one

-- an element of a list with one more
pushed : {X : Type 0} (xs : List X) (x : X) (k : ℕ) (y : X) → slice_get (xs ++ x ∷ []) k ≡ Some y → (slice_get xs k ≡ Some y) ⊎ ((k ≡ length xs) × (x ≡ y))
pushed (z ∷ xs) x (suc k) y e = elim (pushed xs x k y e) [ inl h ↦ inl h | inr h ↦ inr (ap suc h.0, h.1) ]
pushed xs x k y e = grind (arith, common_steps, same_Some) steps 200000

pub told_more : (files : FilesView) (found : List store.Item) (view : BaseView) (n : ℕ) (all : List Told) (one : Told) → IsKeyedTold files found view n one → ToldUpTo files found view n all → ToldUpTo files found view (n + 1) (all ++ one ∷ [])
told_more files found view n all one t f = record {
  count = length-append all (one ∷ []) ∙ ap (λ k. k + 1) f.count;
  each = λ k other e. elim (pushed all one k other e) [
    | inl h ↦ f.each k other h
    | inr h ↦ subst (λ m. IsKeyedTold files found view m other) (sym (h.0 ∙ f.count)) (subst (IsKeyedTold files found view n) h.1 t)
  ];
}
