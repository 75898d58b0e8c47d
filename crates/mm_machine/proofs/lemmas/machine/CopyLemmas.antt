-- Copies of ranges of lists, and whether two ranges are the same.
use Rattle.std.proofs.lemmas.Grind.{elements, common_steps}
use Rattle.std.proofs.lemmas.List.{append_assoc, map-append, take_more_set, map-set, length-map, take-take, take-map, drop-map, drop-take, drop-drop, drop_more, length-take-le, take_at}
use Rattle.std.proofs.{lemmas.{List.{same_from_push}, Bool.{eq-eqb, ne_eqb}, Nat.{mod-pow-add}}, Math.Seq.{take-add, take-append-add}}
use Rattle.std.proofs.Common.{rules, ◌≡◌, ℕ, zero, suc, ◌+◌, ◌-◌, ◌*◌, ◌%◌, ◌^◌, ◌<◌, ◌≤◌, ◌↔◌, not, eqb, List, [], ◌∷◌, ◌++◌, length, map, take, drop, set, get_or, min, sym, ◌∙◌, ap, arith, refl}
use lib.Lanes.{mask_l, zip2}
use Rattle.mm_machine.specs.{Language.NumberedSymbols.{by_code}, declared.symbol.CodedSymbol.{CodedSymbol}}

-- after a write at a place, up to it and under a map
pub put_at : {X Y : Type 0} (f : X → Y) (all : List X) (at : ℕ) (x : X) → at < length all → take (at + 1) (map f (set all at x)) ≡ take at (map f all) ++ f x ∷ []
put_at f all at x l = ap (take (at + 1)) (map-set f all at x) ∙ take_more_set (map f all) at (f x) (omega (arith, length-map all f))

-- lists that agree up to a place have the same ranges below it
pub range_below : {X : Type 0} (xs ys : List X) (to at n : ℕ) → at + n ≤ to → take to xs ≡ take to ys → take n (drop at xs) ≡ take n (drop at ys)
range_below xs ys to at n l e =
    grind (arith, common_steps, drop-take at n xs, drop-take at n ys, take-take (at + n) to xs l, take-take (at + n) to ys l) steps 200000

-- a copy of n, behind a front, goes on with k of what is put next
pub copied_more : {X : Type 0} (front source old new part : List X) (to from n k m : ℕ) → k ≤ m → to + n ≤ length old
    → take (to + n) old ≡ front ++ take n (drop from source) → take (to + n + m) new ≡ take (to + n) old ++ part
    → take k part ≡ take k (drop (from + n) source) → take (to + (n + k)) new ≡ front ++ take (n + k) (drop from source)
copied_more front source old new part to from n k m l in_old so_far next same =
    grind (
      arith,
      common_steps,
      take-take (to + (n + k)) (to + n + m) new (omega arith),
      take-append-add (take (to + n) old) part k,
      length-take-le (to + n) old in_old,
      take-add n k (drop from source),
      drop-drop n from source,
      append_assoc front (take n (drop from source)) (take k (drop (from + n) source)),
    ) steps 200000

-- the range of one element
pub one_at : {X Y : Type 0} (f : X → Y) (xs : List X) (at : ℕ) (x : X) (y : Y) → at < length xs → x ≡ get_or xs at x → y ≡ f x → y ∷ [] ≡ take 1 (drop at (map f xs))
one_at f xs at x y l is e = ap (λ w. w ∷ []) (e ∙ ap f is) ∙ ap (λ w. take 1 (map f w)) (sym (drop_more xs at x l)) ∙ ap (take 1) (sym (drop-map f at xs))

-- a copy goes on with one element
pub copied_one : {X Y : Type 0} (f : X → Y) (front source : List Y) (all : List X) (to from n : ℕ) (x : X) → to + n < length all
    → take (to + n) (map f all) ≡ front ++ take n (drop from source) → f x ∷ [] ≡ take 1 (drop (from + n) source) →
    take (to + (n + 1)) (map f (set all (to + n) x)) ≡ front ++ take (n + 1) (drop from source)
copied_one f front source all to from n x l so_far e = search (rules, copied_more, length-map, put_at)

-- what a copy is made of is before it, and stays
pub source_stays : {X : Type 0} (start all part : List X) (to at n m : ℕ) → to ≤ length start → at + n ≤ to → take (to + m) all ≡ take to start ++ part → take n (drop at all) ≡ take n (drop at start)
source_stays start all part to at n m l b e =
    range_below all start to at n b (sym (take-take to (to + m) all (omega arith)) ∙ ap (take to) e ∙ take_at (take to start) part to (length-take-le to start l))

-- ranges that are the same, with k more that are
pub same_more : {X : Type 0} (xs ys : List X) (at from n k : ℕ) → take n (drop at xs) ≡ take n (drop from ys) → take k (drop (at + n) xs) ≡ take k (drop (from + n) ys)
    → take (n + k) (drop at xs) ≡ take (n + k) (drop from ys)
same_more xs ys at from n k so_far more = grind (arith, common_steps, take-add n k (drop at xs), take-add n k (drop from ys), drop-drop n at xs, drop-drop n from ys) steps 200000

-- a part of ranges that are the same
pub same_part : {X : Type 0} (xs ys : List X) (at from n k len : ℕ) → n + k ≤ len → take len (drop at xs) ≡ take len (drop from ys) → take k (drop (at + n) xs) ≡ take k (drop (from + n) ys)
same_part xs ys at from n k len l e = ap (take k) (sym (drop-drop n at xs)) ∙ range_below (drop at xs) (drop from ys) len n k l e ∙ ap (take k) (drop-drop n from ys)

-- the ranges of one element are the same if and only if these are
pub same_one : {X Y : Type 0} (f : X → Y) (xs ys : List X) (at from : ℕ) (x y : X) → at < length xs → x ≡ get_or xs at x → from < length ys → y ≡ get_or ys from y
    → (take 1 (drop at (map f xs)) ≡ take 1 (drop from (map f ys))) ↔ (f x ≡ f y)
same_one f xs ys at from x y in_xs at_x in_ys at_y = search (rules, one_at, same_from_push)

-- if a function tells elements apart, lists that it makes the same are the same
pub unmapped_same : {X Y : Type 0} (f : X → Y) → ((x y : X) → f x ≡ f y → x ≡ y) → (xs ys : List X) → map f xs ≡ map f ys → xs ≡ ys
unmapped_same f apart [] [] e = refl
unmapped_same f apart [] (y ∷ ys) e = cc
unmapped_same f apart (x ∷ xs) [] e = cc
unmapped_same f apart (x ∷ xs) (y ∷ ys) e = let first = apart x y (cc) in let rest = unmapped_same f apart xs ys (ap (drop 1) e) in cc

-- a range under a map
pub mapped_range : {X Y : Type 0} (f : X → Y) (xs : List X) (at n : ℕ) → take n (drop at (map f xs)) ≡ map f (take n (drop at xs))
mapped_range f xs at n = ap (take n) (drop-map f at xs) ∙ take-map f n (drop at xs)

-- a copy under a map
pub mapped_copy : {X Y : Type 0} (f : X → Y) (start source all : List X) (to from n : ℕ) → take (to + n) all ≡ take to start ++ take n (drop from source)
    → take (to + n) (map f all) ≡ take to (map f start) ++ take n (drop from (map f source))
mapped_copy f start source all to from n e = grind (arith, common_steps, map-append, mapped_range, take-map) steps 200000

-- a copy of a list of this length goes on with a block, of which too much may be put
pub copied_block : {X : Type 0} (front source before old new : List X) (to from n m len : ℕ) → n < len → to + len ≤ length old
    → take (to + min n len) old ≡ front ++ take (min n len) (drop from source) → take (to + n + m) new ≡ take (to + n) old ++ take m (drop (from + n) before)
    → take (min m (len - n)) (drop (from + n) before) ≡ take (min m (len - n)) (drop (from + n) source) →
    take (to + min (n + m) len) new ≡ front ++ take (min (n + m) len) (drop from source)
copied_block front source before old new to from n m len l in_old so_far block same =
    let k = min m (len - n) in
    let end : n + k ≡ min (n + m) len = omega arith in
    let now : min n len ≡ n = omega arith in
    let next = copied_more front source old new (take m (drop (from + n) before)) to from n k m (omega arith) (omega arith)
    (rw now at so_far) block (take-take k m (drop (from + n) before) (omega arith) ∙ same) in
    rw end at next

-- symbols of one meaning have one code
pub coded_apart : (x y : CodedSymbol) → by_code x ≡ by_code y → x ≡ y
coded_apart x y e = search rules

-- ranges of symbols by code mean the same if and only if they are the same
pub coded_ranges : (xs ys : List CodedSymbol) (at from n : ℕ)
    → (take n (drop at (map by_code xs)) ≡ take n (drop from (map by_code ys))) ↔ (take n (drop at xs) ≡ take n (drop from ys))
coded_ranges xs ys at from n = grind (arith, common_steps, coded_apart, mapped_range, unmapped_same) steps 200000

-- ---- blocks

low_bit : (b m n : ℕ) → b < 2 → (b + 2 * m) % 2 ^ suc n ≡ m % 2 ^ n * 2 + b
low_bit b m n l = grind (arith, common_steps, mod-pow-add (b + 2 * m) n 1) steps 200000

-- the first so many bits of the mask of what is different are 0 if and only if so many elements are the same
pub low_bits : (xs ys : List ℕ) (n : ℕ) → n ≤ length xs → n ≤ length ys → (mask_l (zip2 (λ a b. not (eqb a b)) xs ys) % 2 ^ n ≡ 0) ↔ (take n xs ≡ take n ys)
low_bits xs ys zero l m = ((λ e. refl), (λ e. omega arith))
low_bits [] ys (suc n) l m = absurd (omega arith)
low_bits (x ∷ xs) [] (suc n) l m = absurd (omega arith)
low_bits (x ∷ xs) (y ∷ ys) (suc n) l m = grind (arith, common_steps, low_bits xs ys n (omega arith) (omega arith), eq-eqb, low_bit, ne_eqb) steps 200000

-- ranges in blocks are the same if and only if their codes are
pub block_codes : (xs ys : List CodedSymbol) (at from n : ℕ) → n ≤ 4
    → (take n (map (λ (s : CodedSymbol). s.code) (take 4 (drop at xs))) ≡ take n (map (λ (s : CodedSymbol). s.code) (take 4 (drop from ys)))) ↔ (take n (drop at xs) ≡ take n (drop from ys))
block_codes xs ys at from n l = (
  (λ e. unmapped_same (λ (s : CodedSymbol). s.code) (λ x y same. search rules) (take n (drop at xs)) (take n (drop from ys)) (sym (part (drop at xs)) ∙ e ∙ part (drop from ys))),
  (λ e. part (drop at xs) ∙ ap (map (λ (s : CodedSymbol). s.code)) e ∙ sym (part (drop from ys))),
)
  where
    part : (zs : List CodedSymbol) → take n (map (λ (s : CodedSymbol). s.code) (take 4 zs)) ≡ map (λ (s : CodedSymbol). s.code) (take n zs)
    part zs = take-map (λ (s : CodedSymbol). s.code) n (take 4 zs) ∙ ap (map (λ (s : CodedSymbol). s.code)) (take-take n 4 zs l)
