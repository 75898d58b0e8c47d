-- Numbers that rise: the beginning of them, one more after them, and what a search among them finds.
use Rattle.std.proofs.lemmas.{Grind.{common_steps}, Bool.{false_from_ne_true, eqb-true}, List.{get_or_append_left, length_push, Sorted.{searched}}}
use Rattle.std.proofs.lemmas.{Map.Views.{list_any-from_Contains, Contains-from_any}, Option.{get_or_from_slice_get, slice_get_within, slice_get-get_or}}
use Rattle.std.proofs.Common.{◌≡◌, ℕ, zero, suc, ◌+◌, ◌-◌, ◌<◌, ◌≤◌, true, false, Some, Result, Ok, Err, List, [], ◌∷◌, ◌++◌, length, drop, slice_get, get_or, refl, ◌∙◌, ap, subst, arith, inr, ◌⊎◌}
use Rattle.std.{proofs.{Common.{length-append, Contains, is_ok, eqb-true}, Math.Seq.{get_or-append_seam}}, specs.{List.Sorted.{IsBinarySearchResult}, Ordering.{nat_cmp}, Cmp.{nat_eq_equiv}}}
use native.Mathlib.Decide.{dec_lt}
use Rattle.mm_frame.{specs.Code.{LastItems.{IsRising}, PairOrder.{is_among}}, proofs.lemmas.{lists.Members.{In, in_contains, contains_in, in_get, get_in}, frames.Frames.{in_at}}}

-- the beginning of rising numbers rises, and so do they with a larger one after them
pub rising_front : (kept dropped : List ℕ) → IsRising (kept ++ dropped) → IsRising kept
rising_front kept dropped r i j d l m =
    let n = length-append kept dropped in
    subst (λ a. a < get_or kept j d) (get_or_append_left kept dropped d i (omega arith)) (subst (λ b. get_or (kept ++ dropped) i d < b) (get_or_append_left kept dropped d j m) (r i j d l (omega arith)))

pub rising_more : (numbers : List ℕ) (n : ℕ) → IsRising numbers → ((m : ℕ) → In m numbers → m < n) → IsRising (numbers ++ n ∷ [])
rising_more numbers n r h i j d l m = elim (dec_lt j (length numbers)) [
  | yes k ↦ grind (arith, get_or_append_left numbers (n ∷ []) d i (omega arith), get_or_append_left numbers (n ∷ []) d j k) steps 200000
  | no k ↦ (
      let long = length_push numbers n in
      let a = get_or_append_left numbers (n ∷ []) d i (omega arith) in
      let b : get_or (numbers ++ n ∷ []) j d ≡ n = ap (λ k. get_or (numbers ++ n ∷ []) k d) (omega arith) ∙ get_or-append_seam numbers n [] d in
      let c = h (get_or numbers i d) (in_at numbers i d (omega arith)) in
      omega arith
      )
]

-- a number that is searched for among rising ones is found where it is
not_falling : (xs : List ℕ) → IsRising xs → (i j : ℕ) → i ≤ j → j < length xs → get_or xs i 0 ≤ get_or xs j 0
not_falling xs h i j l m = elim (dec_lt i j) [
  | yes k ↦ (let g = h i j 0 k m in omega arith)
  | no n ↦ (let e : i ≡ j = omega arith in let g : get_or xs i 0 ≡ get_or xs j 0 = ap (λ k. get_or xs k 0) e in omega arith)
]

found_or_not : (xs : List ℕ) (x : ℕ) (r : Result ℕ ℕ) → IsBinarySearchResult (λ y. nat_cmp y x) xs r → IsRising xs → ((is_ok r ≡ true) × In x xs) ⊎ ((is_ok r ≡ false) × (In x xs → ⊥))
found_or_not xs x (Ok place) s h = grind (arith, common_steps, searched xs x (Ok place) s (not_falling xs h), in_at xs place 0 (searched xs x (Ok place) s (not_falling xs h)).0) steps 200000
found_or_not xs x (Err place) s h =
    let m = searched xs x (Err place) s (not_falling xs h) in
    inr (
      refl,
      λ i.
          let g = in_get x xs i in
          let v : get_or xs g.0 0 ≡ x = get_or_from_slice_get xs g.0 x 0 g.1 in
          elim (dec_lt g.0 place) [
            | yes l ↦ (let b = m.1 g.0 l in omega arith)
            | no n ↦ (let b = m.2 g.0 (omega arith) (slice_get_within xs g.0 x g.1) in omega arith)
          ],
    )

pub in_among : (numbers : List ℕ) (n : ℕ) → In n numbers → is_among numbers n ≡ true
in_among numbers n h = list_any-from_Contains nat_eq_equiv n numbers (in_contains n numbers h)

pub among_in : (numbers : List ℕ) (n : ℕ) → is_among numbers n ≡ true → In n numbers
among_in numbers n t = contains_in n numbers (Contains-from_any eqb-true n numbers t)

pub among_found : (numbers : List ℕ) (n : ℕ) (r : Result ℕ ℕ) → IsBinarySearchResult (λ y. nat_cmp y n) numbers r → IsRising numbers → is_ok r ≡ is_among numbers n
among_found numbers n r s h = grind (arith, common_steps, found_or_not numbers n r s h, in_among, false_from_ne_true, among_in) steps 200000

-- a number of a rising list that comes no earlier than another is no less
pub rising_least : (row : List ℕ) (k at n : ℕ) → IsRising row → k < length row → slice_get row at ≡ Some n → (at < k → ⊥) → get_or row k 0 ≤ n
rising_least row k at n rising within e later =
    let there : get_or row at 0 ≡ n = get_or_from_slice_get row at n 0 e in
    elim (dec_lt k at) [
      | yes l ↦ (let less : get_or row k 0 < get_or row at 0 = rising k at 0 l (slice_get_within row at n e) in omega arith)
      | no m ↦ grind (arith, common_steps, dec_lt at k) steps 200000
    ]

-- an element after the first ones
pub get_drop : {X : Type 0} (xs : List X) (k i n : ℕ) → k + i ≡ n → slice_get (drop k xs) i ≡ slice_get xs n
get_drop xs zero i n e = let z : i ≡ n = omega arith in ap (slice_get xs) z
get_drop [] (suc k) i n e = refl
get_drop (x ∷ xs) (suc k) i zero e = absurd (omega arith)
get_drop (x ∷ xs) (suc k) i (suc n) e = get_drop xs k i n (omega arith)

-- if the one before them is less than a number, the numbers from there on are those that are no less
pub rest_whole : (row : List ℕ) (at number n : ℕ) → IsRising row → 0 < at → at ≤ length row → get_or row (at - 1) 0 < number → number ≤ n → Contains row n → Contains (drop at row) n
rest_whole row at number n rising some within less l there =
    let g = in_get n row (contains_in n row there) in
    let w = slice_get_within row g.0 n g.1 in
    let same : get_or row g.0 0 ≡ n = get_or_from_slice_get row g.0 n 0 g.1 in
    elim (dec_lt g.0 at) [
      | yes m ↦ (let no = rising_least row g.0 (at - 1) (get_or row (at - 1) 0) rising w (slice_get-get_or row (at - 1) 0 (omega arith)) (λ a. omega arith) in absurd (omega arith))
      | no m ↦ (let z : at + (g.0 - at) ≡ g.0 = omega arith in in_contains n (drop at row) (get_in n (drop at row) (g.0 - at) (get_drop row at (g.0 - at) g.0 z ∙ g.1)))
    ]
