-- Short names and labels have codes of their own, which fit into 64 bits.
use Rattle.std.proofs.lemmas.{Bool.{false≢true, cases_Bool, leb-true, and_parts, false_from_ne_true}, Grind.{common_steps}, Slice.Eq.{bytes_eq-Decides}}
use Rattle.std.proofs.Common.{arith, ◌≡◌, ℕ, zero, suc, ◌*◌, ◌^◌, ◌<◌, ◌≤◌, true, List, [], ◌∷◌, length, drop, length-drop, nat_eq, nat_lt, bytes_eq, refl, ◌∙◌, ap}
use Rattle.mm_frame.specs.Code.Codes.{are_ascii, bytes_code}

pub code_positive : (bs : List ℕ) → 1 ≤ bytes_code bs
code_positive [] = omega arith
code_positive (b ∷ bs) = let p = code_positive bs in omega arith

-- bytes with one code are one
pub one_code : (xs ys : List ℕ) → are_ascii xs ≡ true → are_ascii ys ≡ true → bytes_code xs ≡ bytes_code ys → xs ≡ ys
one_code [] [] s t e = refl
one_code [] (y ∷ ys) s t e = let p = code_positive ys in absurd (omega arith)
one_code (x ∷ xs) [] s t e = let p = code_positive xs in absurd (omega arith)
one_code (x ∷ xs) (y ∷ ys) s t e =
    let a = and_parts (nat_lt x 128) (are_ascii xs) s in
    let b = and_parts (nat_lt y 128) (are_ascii ys) t in
    let l : suc x ≤ 128 = leb-true (suc x) 128 a.0 in
    let m : suc y ≤ 128 = leb-true (suc y) 128 b.0 in
    ap (λ z. z ∷ xs) (omega arith) ∙ ap (λ zs. y ∷ zs) (one_code xs ys a.1 b.1 (omega arith))

-- the code of a few bytes is small
code_below : (n : ℕ) (bs : List ℕ) → length bs ≤ n → are_ascii bs ≡ true → bytes_code bs < 2 * 128 ^ n
code_below zero [] k f = omega arith
code_below (suc n) [] k f = let p = code_below n [] (omega arith) refl in omega arith
code_below zero (b ∷ bs) k f = omega arith
code_below (suc n) (b ∷ bs) k f = grind (arith, common_steps, code_below n bs (omega arith) (and_parts (nat_lt b 128) (are_ascii bs) f).1, and_parts, leb-true) steps 200000

-- few bytes have one code exactly when they are the same
pub same_code : (xs ys : List ℕ) → are_ascii xs ≡ true → are_ascii ys ≡ true → nat_eq (bytes_code xs) (bytes_code ys) ≡ bytes_eq xs ys
same_code xs ys s t = grind (arith, common_steps, cases_Bool (bytes_eq xs ys), bytes_eq-Decides xs ys, false_from_ne_true, false≢true, one_code) steps 200000

-- there is room for one more
pub code_fits : (left : ℕ) (bs : List ℕ) → 0 < left → left ≤ length bs → length bs ≤ 9 → are_ascii (drop left bs) ≡ true → bytes_code (drop left bs) < 2 ^ 57
code_fits left bs k h m f = grind (arith, common_steps, code_below 8 (drop left bs), length-drop) steps 200000
