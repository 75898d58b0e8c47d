-- Values that several items can have: they stay while more values come.
use Rattle.std.proofs.Common.{◌≡◌, ℕ, zero, suc, ◌<◌, Option, Some, None, Result, Ok, Err, List, [], ◌∷◌, ◌++◌, length, map, slice_get, is_some, refl, sym, ◌∙◌, ap, subst, arith, inl, inr}
use Rattle.std.{proofs.lemmas.{Grind.{common_steps}, List.{map-append}, Option.{slice_get_cases, none-some}}, specs.Prelude.{OnOk, OnErr}}
use Rattle.mm_frame.{specs.Code.{KeptShared.{value_at}, KeptSparse.{value_kept}}, proofs.lemmas.{lists.Members.{get_join}, scope.BlockLemmas.{get_cases}}}

-- each place is below this
abbrev pub AreBelow : ℕ → List (Option ℕ) → Type 0
AreBelow count places = (n place : ℕ) → slice_get places n ≡ Some (Some place) → place < count

-- the value of an item is that at its place
pub value_of : {X : Type 0} (values : List X) (places : List (Option ℕ)) (n : ℕ) → value_kept (map (value_at values) places) n ≡ value_at values (value_kept places n)
value_of values [] n = refl
value_of values (p ∷ places) zero = refl
value_of values (p ∷ places) (suc n) = value_of values places n

-- with one more value the items have what they had
pub value_stays : {X : Type 0} (values more : List X) (place : Option ℕ) → ((n : ℕ) → place ≡ Some n → n < length values) → value_at (values ++ more) place ≡ value_at values place
value_stays values more None h = refl
value_stays values more (Some n) h = elim (slice_get_cases values n).1 [
  | inl p ↦ get_join values more n p.0 p.2 ∙ sym p.2
  | inr p ↦ absurd (omega (arith, h n refl, p.0))
]

pub values_stay : {X : Type 0} (values more : List X) (places : List (Option ℕ)) → AreBelow (length values) places → map (value_at (values ++ more)) places ≡ map (value_at values) places
values_stay values more [] h = refl
values_stay values more (p ∷ places) h =
    grind (arith, common_steps, values_stay values more places (λ k n e. h (suc k) n e), value_stays values more p (λ n e. h 0 n (ap Some e))) steps 200000

-- an item that has a value
pub value_there : {X : Type 0} (kept : List (Option X)) (n : ℕ) (x : X) → value_kept kept n ≡ Some x → slice_get kept n ≡ Some (Some x)
value_there [] n x e = absurd (none-some x e)
value_there (y ∷ kept) zero x e = ap Some e
value_there (y ∷ kept) (suc n) x e = value_there kept n x e

-- each item that has a place has a value
some_at : {X : Type 0} (values : List X) (place : Option ℕ) → ((n : ℕ) → place ≡ Some n → n < length values) → is_some place ≡ is_some (value_at values place)
some_at values None h = refl
some_at values (Some n) h = elim (slice_get_cases values n).1 [
  | inl p ↦ ap is_some (sym p.2)
  | inr p ↦ absurd (omega (arith, h n refl, p.0))
]

pub has_value : {X : Type 0} (values : List X) (places : List (Option ℕ)) (n : ℕ) → AreBelow (length values) places → is_some (value_kept places n) ≡ is_some (value_kept (map (value_at values) places) n)
has_value values places n h = some_at values (value_kept places n) (λ place e. h n place (value_there places n place e)) ∙ ap is_some (sym (value_of values places n))

-- one more item
pub below_more : (count : ℕ) (places : List (Option ℕ)) (place : Option ℕ) → AreBelow count places → ((n : ℕ) → place ≡ Some n → n < count) → AreBelow count (places ++ place ∷ [])
below_more count places place h k n at e = grind (arith, common_steps, get_cases places place (Some at) n e) steps 200000

-- or none, if there is no memory
pub still_below : {T E : Type 0} (count : ℕ) (old new : List (Option ℕ)) (place : Option ℕ) (r : Result T E) → OnOk r (new ≡ old ++ place ∷ []) → OnErr r (new ≡ old)
    → AreBelow count old → ((n : ℕ) → place ≡ Some n → n < count) → AreBelow count new
still_below count old new place (Ok u) ok err h k = subst (AreBelow count) (sym ok) (below_more count old place h k)
still_below count old new place (Err e) ok err h k = subst (AreBelow count) (sym err) h

pub shared_push : {X T E : Type 0} (values more : List X) (old new : List (Option ℕ)) (place : Option ℕ) (kept : List (Option X)) (r : Result T E) → OnOk r (new ≡ old ++ place ∷ [])
    → AreBelow (length values) old → map (value_at values) old ≡ kept → OnOk r (map (value_at (values ++ more)) new ≡ kept ++ value_at (values ++ more) place ∷ [])
shared_push values more old new place kept (Ok u) ok h view =
    grind (arith, common_steps, map-append (value_at (values ++ more)) old (place ∷ []), values_stay values more old h) steps 200000
shared_push values more old new place kept (Err e) ok h view = tt

-- or with what an earlier one has
pub shared_once_more : {X T E : Type 0} (values : List X) (old new : List (Option ℕ)) (place : Option ℕ) (number : ℕ) (kept : List (Option X)) (r : Result T E) → OnOk r (new ≡ old ++ place ∷ [])
    → place ≡ value_kept old number → map (value_at values) old ≡ kept → OnOk r (map (value_at values) new ≡ kept ++ value_kept kept number ∷ [])
shared_once_more values old new place number kept (Ok u) ok e view =
    grind (arith, common_steps, map-append (value_at values) old (place ∷ []), value_of values old number) steps 200000
shared_once_more values old new place number kept (Err e) ok f view = tt
