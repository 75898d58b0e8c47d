-- Lists that are read by functions, place by place.
use Rattle.std.{proofs.{Common.{arith, ◌≡◌, ℕ, suc, Some, List, ◌∷◌, slice_get}, lemmas.Grind.{common_steps}}, specs.List.{AllZip}}

-- the element of the one list with that of the other
pub zip_found : {A B : Type 0} (R : A → B → Type 0) (xs : List A) (ys : List B) (i : ℕ) (x : A) → AllZip R xs ys → slice_get xs i ≡ Some x → (y : B) × (slice_get ys i ≡ Some y) × R x y
zip_found R (w ∷ xs) (z ∷ ys) (suc i) x a e = zip_found R xs ys i x a.1 e
zip_found R xs ys i x a e = grind (arith, common_steps) steps 200000
