-- What is in a list: in one with a first member, in several joined, and in one of answers.
use Rattle.std.proofs.lemmas.{Grind.{common_steps}, List.Elements.{Contains-append_left, Contains-append_right, Contains-append_cases}}
use Rattle.std.{proofs.Common.{◌≡◌, ◌⊎◌, List, [], ◌∷◌, map, refl, sym, subst, inl, inr, arith, Contains}, specs.List.{flat_map}}

pub none : {X : Type 0} (x : X) → Contains [] x → ⊥
none x c = omega (arith, c.1)

pub only_one : {X : Type 0} (s x : X) → Contains (s ∷ []) x → s ≡ x
only_one s x c = grind (arith, common_steps) steps 200000

pub here : {X : Type 0} (x : X) (xs : List X) → Contains (x ∷ xs) x
here x xs = (0, omega arith, refl)

pub there : {X : Type 0} (y : X) (xs : List X) (x : X) → Contains xs x → Contains (y ∷ xs) x
there y xs x c = Contains-append_right (y ∷ []) xs x c

-- the first, or one of the others
pub first_or_later : {X : Type 0} (y : X) (xs : List X) (x : X) → Contains (y ∷ xs) x → (y ≡ x) ⊎ Contains xs x
first_or_later y xs x c = elim (Contains-append_cases (y ∷ []) xs x c) [ inl a ↦ inl (only_one y x a) | inr b ↦ inr b ]

-- lists joined
pub in_flat : {X Y : Type 0} (f : X → List Y) (xs : List X) (x : X) (y : Y) → Contains xs x → Contains (f x) y → Contains (flat_map f xs) y
in_flat f [] x y c d = absurd (none x c)
in_flat f (z ∷ xs) x y c d = elim (first_or_later z xs x c) [
  | inl e ↦ Contains-append_left (f z) (flat_map f xs) y (subst (λ w. Contains (f w) y) (sym e) d)
  | inr b ↦ Contains-append_right (f z) (flat_map f xs) y (in_flat f xs x y b d)
]

pub from_flat : {X Y : Type 0} (f : X → List Y) (xs : List X) (y : Y) → Contains (flat_map f xs) y → (x : X) × Contains xs x × Contains (f x) y
from_flat f [] y c = absurd (none y c)
from_flat f (z ∷ xs) y c = elim (Contains-append_cases (f z) (flat_map f xs) y c) [
  | inl a ↦ (z, here z xs, a)
  | inr b ↦ (let r = from_flat f xs y b in (r.0, there z xs r.0 r.1, r.2))
]

-- answers
pub in_map : {X Y : Type 0} (f : X → Y) (xs : List X) (x : X) → Contains xs x → Contains (map f xs) (f x)
in_map f [] x c = absurd (none x c)
in_map f (z ∷ xs) x c = elim (first_or_later z xs x c) [
  | inl e ↦ subst (λ w. Contains (f z ∷ map f xs) (f w)) e (here (f z) (map f xs))
  | inr b ↦ there (f z) (map f xs) (f x) (in_map f xs x b)
]

pub from_map : {X Y : Type 0} (f : X → Y) (xs : List X) (y : Y) → Contains (map f xs) y → (x : X) × Contains xs x × (f x ≡ y)
from_map f [] y c = absurd (none y c)
from_map f (z ∷ xs) y c = elim (first_or_later (f z) (map f xs) y c) [
  | inl e ↦ (z, here z xs, e)
  | inr b ↦ (let r = from_map f xs y b in (r.0, there z xs r.0 r.1, r.2))
]
