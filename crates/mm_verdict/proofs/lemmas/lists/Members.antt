-- What is in a list, and in one that is longer by one.
use Rattle.std.proofs.lemmas.{Grind.{elements, common_steps}, Option.{same_Some, slice_get_within, get_or_from_slice_get, slice_get-get_or}, List.{get_or_append_left, get_or_push}}
use Rattle.std.proofs.Common.{◌≡◌, ℕ, zero, suc, ◌<◌, List, ◌∷◌, length, get_or, refl, arith, inl, inr, ◌⊎◌, Contains, Some, [], slice_get, ◌++◌, length-append}

pub Contains-here : {X : Type 0} (x : X) (xs : List X) → Contains (x ∷ xs) x
Contains-here x xs = (0, omega arith, refl)

cases_at : {X : Type 0} (x : X) (xs : List X) (y : X) (k : ℕ) → k < length (x ∷ xs) → get_or (x ∷ xs) k y ≡ y → (x ≡ y) ⊎ Contains xs y
cases_at x xs y zero l e = inl e
cases_at x xs y (suc k) l e = inr (k, omega arith, e)

pub contains_cases : {X : Type 0} (x : X) (xs : List X) (y : X) → Contains (x ∷ xs) y → (x ≡ y) ⊎ Contains xs y
contains_cases x xs y c = cases_at x xs y c.0 c.1 c.2

pub contains_there : {X : Type 0} (x : X) (xs : List X) (y : X) → Contains xs y → Contains (x ∷ xs) y
contains_there x xs y c = (suc c.0, omega arith, c.2)

-- one more of a list
pub kept_at : {X : Type 0} (front back : List X) (n : ℕ) (x : X) → slice_get front n ≡ Some x → slice_get (front ++ back) n ≡ Some x
kept_at front back n x e = grind (arith, elements, get_or_append_left, get_or_from_slice_get, length-append, slice_get-get_or, slice_get_within) steps 200000

pub last_there : {X : Type 0} (xs : List X) (x : X) → slice_get (xs ++ x ∷ []) (length xs) ≡ Some x
last_there [] x = refl
last_there (y ∷ xs) x = grind (arith, common_steps, last_there xs x) steps 200000

-- what is in a list with one more was in it before, or is that one
pub before_or_last : {X : Type 0} (xs : List X) (x y : X) (n : ℕ) → slice_get (xs ++ x ∷ []) n ≡ Some y → (slice_get xs n ≡ Some y) ⊎ ((n ≡ length xs) × (x ≡ y))
before_or_last xs x y n e =
    grind (arith, elements, get_or_append_left, get_or_from_slice_get, get_or_push, length-append, same_Some, slice_get-get_or, slice_get_within) steps 200000
