-- What holds of every element of a list, by recursion.
use Rattle.std.{specs.List.{AllByRecursion}, proofs.{Common.{All, Bool, List, Some, [], arith, filter, map, refl, slice_get, subst, suc, zero, ℕ, ◌++◌, ◌∷◌, ◌≡◌}, lemmas.Bool.{cases_Bool}}}
use Rattle.std.proofs.lemmas.{List.Elements.{All-head, All-tail}, Grind.{common_steps}}

pub all_at : {X : Type 0} (P : X → Type 0) (xs : List X) (n : ℕ) (x : X) → AllByRecursion P xs → slice_get xs n ≡ Some x → P x
all_at P [] n x a e = cc
all_at P (y ∷ ys) zero x a e = let k : y ≡ x = cc in subst P k a.0
all_at P (y ∷ ys) (suc n) x a e = all_at P ys n x a.1 e

pub joined : {X : Type 0} (P : X → Type 0) (xs ys : List X) → AllByRecursion P xs → AllByRecursion P ys → AllByRecursion P (xs ++ ys)
joined P [] ys a b = b
joined P (x ∷ xs) ys a b = (a.0, joined P xs ys a.1 b)

pub mapped : {X Y : Type 0} (P : Y → Type 0) (f : X → Y) (xs : List X) → AllByRecursion (λ x. P (f x)) xs → AllByRecursion P (map f xs)
mapped P f [] all = tt
mapped P f (x ∷ xs) all = (all.0, mapped P f xs all.1)

pub kept_all : {X : Type 0} (P : X → Type 0) (f : X → Bool) (xs : List X) → AllByRecursion P xs → AllByRecursion P (filter f xs)
kept_all P f [] all = tt
kept_all P f (x ∷ xs) all = grind (arith, common_steps, cases_Bool (f x), kept_all P f xs all.1) steps 200000

-- functions that agree on each element
pub map_alike : {X Y : Type 0} (f g : X → Y) (xs : List X) → All (λ x. f x ≡ g x) xs → map f xs ≡ map g xs
map_alike f g [] all = refl
map_alike f g (x ∷ xs) all = λ i. All-head (λ x. f x ≡ g x) x xs all i ∷ map_alike f g xs (All-tail (λ x. f x ≡ g x) x xs all) i
