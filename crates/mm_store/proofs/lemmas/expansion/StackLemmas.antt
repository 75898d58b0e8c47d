-- The last element of a list.
use Rattle.std.proofs.{lemmas.Grind.{common_steps}, Common.{◌≡◌, ℕ, suc, List, [], ◌∷◌, ◌++◌, length, ap, arith, slice_set}}

pub set_last : {X : Type 0} (front : List X) (x y : X) (n : ℕ) → n ≡ length front → slice_set (front ++ x ∷ []) n y ≡ front ++ y ∷ []
set_last (first ∷ front) x y (suc n) e = ap (λ l. first ∷ l) (set_last front x y n (omega arith))
set_last front x y n e = grind (arith, common_steps) steps 200000
