-- What is in a list, and in one that is longer by one.
use Rattle.std.proofs.Common.{◌≡◌, ℕ, zero, suc, ◌<◌, List, ◌∷◌, length, get_or, refl, arith, inl, inr, ◌⊎◌, Contains, Some, ap, slice_get, ◌++◌, ◌∙◌, [], subst, take, drop, ◌+◌, ◌↔◌}
use Rattle.std.proofs.lemmas.{Option.{get_or_from_slice_get, slice_get-get_or, slice_get_within}, List.{take_more, take-append-drop}}
use Rattle.std.proofs.lemmas.List.Elements.{Contains-append_left, Contains-append_right, Contains-push, Contains-push_cases}

pub Contains-here : {X : Type 0} (x : X) (xs : List X) → Contains (x ∷ xs) x
Contains-here x xs = (0, omega arith, refl)

cases_at : {X : Type 0} (x : X) (xs : List X) (y : X) (k : ℕ) → k < length (x ∷ xs) → get_or (x ∷ xs) k y ≡ y → (x ≡ y) ⊎ Contains xs y
cases_at x xs y zero l e = inl e
cases_at x xs y (suc k) l e = inr (k, omega arith, e)

pub contains_cases : {X : Type 0} (x : X) (xs : List X) (y : X) → Contains (x ∷ xs) y → (x ≡ y) ⊎ Contains xs y
contains_cases x xs y c = cases_at x xs y c.0 c.1 c.2

pub contains_there : {X : Type 0} (x : X) (xs : List X) (y : X) → Contains xs y → Contains (x ∷ xs) y
contains_there x xs y c = (suc c.0, omega arith, c.2)

-- and at which place
pub contains_get : {X : Type 0} (xs : List X) (x : X) → (c : Contains xs x) → slice_get xs c.0 ≡ Some x
contains_get xs x c = slice_get-get_or xs c.0 x c.1 ∙ ap Some c.2

pub contains_at : {X : Type 0} (xs : List X) (n : ℕ) (x : X) → slice_get xs n ≡ Some x → Contains xs x
contains_at xs n x e = (n, slice_get_within xs n x e, get_or_from_slice_get xs n x x e)

-- a last element, if there is one
pub last_element : {X : Type 0} (x : X) (xs : List X) → (below : List X) × (e : X) × (x ∷ xs ≡ below ++ e ∷ [])
last_element x [] = ([], x, refl)
last_element x (y ∷ ys) = let l = last_element y ys in (x ∷ l.0, l.1, ap (λ s. x ∷ s) l.2)

-- one more of a list
pub take_next : {X : Type 0} (xs : List X) (n : ℕ) (x : X) → slice_get xs n ≡ Some x → take (n + 1) xs ≡ take n xs ++ x ∷ []
take_next xs n x at = take_more xs n x (slice_get_within xs n x at) ∙ ap (λ w. take n xs ++ w ∷ []) (get_or_from_slice_get xs n x x at)

-- what is in a list with one more
pub pushed : {X : Type 0} (xs : List X) (y x : X) → Contains (xs ++ y ∷ []) x ↔ (Contains xs x ⊎ (y ≡ x))
pushed xs y x = (
  Contains-push_cases xs y x,
  λ s. elim s [ inl c ↦ Contains-append_left xs (y ∷ []) x c | inr e ↦ subst (λ w. Contains (xs ++ y ∷ []) w) e (Contains-push xs y) ],
)

-- what is in the rest of a list is in it
pub contains_behind : {X : Type 0} (xs : List X) (n : ℕ) (x : X) → Contains (drop n xs) x → Contains xs x
contains_behind xs n x c = subst (λ w. Contains w x) (take-append-drop n xs) (Contains-append_right (take n xs) (drop n xs) x c)
