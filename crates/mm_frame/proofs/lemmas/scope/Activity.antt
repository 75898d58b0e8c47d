-- Activity by blocks and by what is closed between.
use Rattle.std.proofs.lemmas.{Grind.{common_steps}, Bool.{false≢true}, List.Sums.{sum_by-cons, sum_by-append}}
use Rattle.std.proofs.Common.{◌≡◌, ℕ, zero, suc, ◌+◌, ◌-◌, ◌≤◌, ◌<◌, ◌↔◌, Bool, true, false, cond, Some, List, [], ◌∷◌, take, drop, slice_get, count_by, refl, sym, ◌∙◌, ap, subst, arith, take-add}
use Rattle.std.proofs.Common.{take-take}
use native.Mathlib.Decide.{dec_lt}
use Rattle.mm_statement.specs.Language.Item.{Kind, BlockStart, BlockEnd, Said, is_kind}
use Rattle.mm_frame.specs.Language.{Scope.{stays, is_start, is_end}, Numbered.{IsEven, IsEndOf, HoldsItem, IsActive, between}, Marks.{Neither, mark_of}}
use Rattle.mm_frame.proofs.lemmas.scope.{Stack.{starts_mark, ends_mark, stays_by_counts}, Heights.{IsHeight, EndsAt, Around, from_height, to_height}}

cons_count : (p : Said → Bool) (x : Said) (xs : List Said) → count_by p (x ∷ xs) ≡ cond (p x) 1 0 + count_by p xs
cons_count p x xs = sum_by-cons (λ i. cond (p i) 1 0) x xs

count_more : (p : Said → Bool) (xs : List Said) (k : ℕ) → count_by p (take k xs) ≤ count_by p (take (suc k) xs)
count_more p [] zero = omega arith
count_more p [] (suc k) = omega arith
count_more p (x ∷ xs) zero = omega arith
count_more p (x ∷ xs) (suc k) = let a = cons_count p x (take k xs) in let b = cons_count p x (take (suc k) xs) in let c = count_more p xs k in omega arith

small : (b : Bool) → cond b 1 0 ≤ 1
small true = omega arith
small false = omega arith

count_one : (p : Said → Bool) (xs : List Said) (k : ℕ) → count_by p (take (suc k) xs) ≤ suc (count_by p (take k xs))
count_one p [] zero = omega arith
count_one p [] (suc k) = omega arith
count_one p (x ∷ xs) zero = let a = cons_count p x [] in let s = small (p x) in omega arith
count_one p (x ∷ xs) (suc k) = let a = cons_count p x (take k xs) in let b = cons_count p x (take (suc k) xs) in let c = count_one p xs k in omega arith

count_at : (p : Said → Bool) (xs : List Said) (k : ℕ) (x : Said) → slice_get xs k ≡ Some x → count_by p (take (suc k) xs) ≡ count_by p (take k xs) + cond (p x) 1 0
count_at p [] k x e = cc
count_at p (y ∷ xs) zero x e = grind (arith, common_steps, cons_count) steps 200000
count_at p (y ∷ xs) (suc k) x e = let a = cons_count p y (take k xs) in let b = cons_count p y (take (suc k) xs) in let c = count_at p xs k x e in omega arith

found_case : (p : Said → Bool) (x : Said) (b : Bool) → p x ≡ b → 0 < cond b 1 0 → p x ≡ true
found_case p x true e l = e
found_case p x false e l = absurd (omega arith)

count_found : (p : Said → Bool) (xs : List Said) (k : ℕ) → count_by p (take k xs) < count_by p (take (suc k) xs) → (x : Said) × (slice_get xs k ≡ Some x) × (p x ≡ true)
count_found p [] zero l = absurd (omega arith)
count_found p [] (suc k) l = absurd (omega arith)
count_found p (x ∷ xs) zero l = (x, refl, found_case p x (p x) refl (let a = cons_count p x [] in omega arith))
count_found p (x ∷ xs) (suc k) l = count_found p xs k (let a = cons_count p x (take k xs) in let b = cons_count p x (take (suc k) xs) in omega arith)

count_split : (p : Said → Bool) (xs : List Said) (b n : ℕ) → count_by p (take (b + n) xs) ≡ count_by p (take b xs) + count_by p (take n (drop b xs))
count_split p xs b n = ap (count_by p) (take-add b n xs) ∙ sum_by-append (λ i. cond (p i) 1 0) (take b xs) (take n (drop b xs))

-- how many blocks are open before item k
abbrev height : List Said → ℕ → ℕ
height items k = count_by is_start (take k items) - count_by is_end (take k items)

nested : (items : List Said) → stays items ≡ true → (k : ℕ) → count_by is_end (take k items) ≤ count_by is_start (take k items)
nested items h = (stays_by_counts items).0 h

is_height : (items : List Said) → stays items ≡ true → IsHeight (height items)
is_height items h = grind (arith, common_steps, nested, count_one, count_more) steps 200000

even_height : (items : List Said) → stays items ≡ true → (b e : ℕ) → b < e → IsEven items b e → height items (suc e) ≡ height items b
even_height items h b e l v =
    let q : b + (e + 1 - b) ≡ suc e = omega arith in
    grind (arith, common_steps, count_split is_start items b (e + 1 - b), count_split is_end items b (e + 1 - b), nested items h b) steps 200000

height_even : (items : List Said) → stays items ≡ true → (b e : ℕ) → b < e → height items (suc e) ≡ height items b → IsEven items b e
height_even items h b e l v =
    let q : b + (e + 1 - b) ≡ suc e = omega arith in
    grind (arith, common_steps, count_split is_start items b (e + 1 - b), count_split is_end items b (e + 1 - b), nested items h b, nested items h (suc e)) steps 200000

to_ends : (items : List Said) → stays items ≡ true → (b e : ℕ) → IsEndOf items b e → EndsAt (height items) b e
to_ends items h b e d = record { behind = d.behind; even = even_height items h b e d.behind d.even; first = λ k x y z. d.first k x y (height_even items h b k x z) }

from_ends : (items : List Said) → stays items ≡ true → (b e : ℕ) → EndsAt (height items) b e → IsEndOf items b e
from_ends items h b e d = record { behind = d.behind; even = height_even items h b e d.behind d.even; first = λ k x y z. d.first k x y (even_height items h b k x z) }

ends_not : (k : Kind) → is_kind BlockStart k ≡ true → is_kind BlockEnd k ≡ false
ends_not BlockEnd t = absurd (false≢true t)
ends_not _ t = refl

flat_at : (items : List Said) (i : ℕ) (x : Said) → slice_get items i ≡ Some x → mark_of x.kind ≡ Neither → height items (suc i) ≡ height items i
flat_at items i x e m = grind (arith, common_steps, count_at is_start items i x e, count_at is_end items i x e, starts_mark x.kind, ends_mark x.kind) steps 200000

rises_at : (items : List Said) → stays items ≡ true → (b : ℕ) (s : Said) → slice_get items b ≡ Some s → is_start s ≡ true → height items (suc b) ≡ suc (height items b)
rises_at items h b s e t = grind (arith, common_steps, count_at is_start items b s e, count_at is_end items b s e, ends_not s.kind t, nested items h b) steps 200000

-- the heights between
stay_heights : (items : List Said) → stays items ≡ true → (i j : ℕ) → stays (between items i j) ≡ true → (k : ℕ) → i < k → k ≤ j → height items (suc i) ≤ height items k
stay_heights items h i j s k a b =
    let n = k - (i + 1) in
    let q : i + 1 + n ≡ k = omega arith in
    let r : i + 1 ≡ suc i = omega arith in
    let c = (stays_by_counts (between items i j)).0 s n in
    let t = take-take n (j - (i + 1)) (drop (i + 1) items) (omega arith) in
    let x = ap (count_by is_end) t in
    let y = ap (count_by is_start) t in
    let u = subst (λ w. count_by is_start (take w items) ≡ count_by is_start (take (i + 1) items) + count_by is_start (take n (drop (i + 1) items))) q (count_split is_start items (i + 1) n) in
    let v = subst (λ w. count_by is_end (take w items) ≡ count_by is_end (take (i + 1) items) + count_by is_end (take n (drop (i + 1) items))) q (count_split is_end items (i + 1) n) in
    let z : height items (i + 1) ≤ height items k = omega arith in
    subst (λ w. height items w ≤ height items k) r z

heights_stay : (items : List Said) → stays items ≡ true → (i j : ℕ) → i < j → ((k : ℕ) → i < k → k ≤ j → height items (suc i) ≤ height items k) → stays (between items i j) ≡ true
heights_stay items h i j l f = (stays_by_counts (between items i j)).1 (λ k. by_length k (dec_lt k (j - (i + 1))))
  where
    inside_of : (n : ℕ) → n ≤ j - (i + 1) → count_by is_end (take n (drop (i + 1) items)) ≤ count_by is_start (take n (drop (i + 1) items))
    inside_of n a = grind (arith, common_steps, count_split is_start items (i + 1) n, count_split is_end items (i + 1) n, nested items h (i + 1), nested items h (i + 1 + n)) steps 200000

    by_length : (k : ℕ) → Dec (k < j - (i + 1)) → count_by is_end (take k (between items i j)) ≤ count_by is_start (take k (between items i j))
    by_length k (yes a) =
        let t = take-take k (j - (i + 1)) (drop (i + 1) items) (omega arith) in
        subst (λ w. count_by is_end w ≤ count_by is_start w) (sym t) (inside_of k (omega arith))
    by_length k (no a) =
        let t = take_past k (j - (i + 1)) (drop (i + 1) items) (omega arith) in
        subst (λ w. count_by is_end w ≤ count_by is_start w) (sym t) (inside_of (j - (i + 1)) (omega arith))
      where
        take_past : (m n : ℕ) (xs : List Said) → n ≤ m → take m (take n xs) ≡ take n xs
        take_past zero zero xs l = refl
        take_past (suc m) zero xs l = refl
        take_past zero (suc n) xs l = absurd (omega arith)
        take_past (suc m) (suc n) [] l = refl
        take_past (suc m) (suc n) (x ∷ xs) l = ap (λ w. x ∷ w) (take_past m n xs (omega arith))

pub active_by_blocks : (items : List Said) (i j : ℕ) (x y : Said) → stays items ≡ true → slice_get items i ≡ Some x → slice_get items j ≡ Some y
    → mark_of x.kind ≡ Neither → mark_of y.kind ≡ Neither → i < j → (stays (between items i j) ≡ true) ↔ IsActive items i j
active_by_blocks items i j x y h ei ej mx my l = (to_active, from_active)
  where
    high : IsHeight (height items)
    high = is_height items h

    to_active : stays (between items i j) ≡ true → IsActive items i j
    to_active s = record {
      before = l;
      blocks = λ b d. record {
        start = d.start;
        there = d.there;
        starts = d.starts;
        behind = (omega arith);
        before_end = λ e f. from_height (height items) (is_height items h) i j b e (stay_heights items h i j s)
            (let w = flat_at items j y ej my in omega arith) (to_ends items h b e f) (rises_at items h b d.start d.there d.starts) d.behind
            (d.before_end e f);
      };
    }

    around : IsActive items i j → Around (height items) i j
    around a b c s f e d =
        let p = count_found is_start items b (let o = count_more is_end items b in omega arith) in
        let w : HoldsItem items b i = record { start = p.0; there = p.1; starts = p.2; behind = c; before_end = λ e d. f e (to_ends items h b e d) } in
        (a.blocks b w).before_end e (from_ends items h b e d)

    from_active : IsActive items i j → stays (between items i j) ≡ true
    from_active a = heights_stay items h i j l
        (λ k u v. (let q : suc (i + (k - suc i)) ≡ k = omega arith in subst (λ w. height items (suc i) ≤ height items w) q
        (to_height (height items) (is_height items h) i j (flat_at items i x ei mx) (around a) (k - suc i) (omega arith) (k - suc i) (omega arith))))
