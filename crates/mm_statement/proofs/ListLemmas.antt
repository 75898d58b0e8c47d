-- Elements of rests of lists.
use Rattle.std.proofs.Common.{◌≡◌, ℕ, zero, suc, ◌+◌, List, [], ◌∷◌, drop, refl, ap, arith, slice_get}

-- an element of what is left after some
pub get_drop : {X : Type 0} (xs : List X) (k i n : ℕ) → k + i ≡ n → slice_get (drop k xs) i ≡ slice_get xs n
get_drop xs zero i n e = let z : i ≡ n = omega arith in ap (slice_get xs) z
get_drop [] (suc k) i n e = refl
get_drop (x ∷ xs) (suc k) i zero e = absurd (omega arith)
get_drop (x ∷ xs) (suc k) i (suc n) e = get_drop xs k i n (omega arith)
