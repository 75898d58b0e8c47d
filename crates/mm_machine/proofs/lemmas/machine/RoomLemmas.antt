-- Symbols that are put into a list, behind its front.
use Rattle.std.proofs.Common.{rules, ◌≡◌, ℕ, ◌+◌, ◌-◌, ◌<◌, ◌≤◌, List, [], ◌∷◌, ◌++◌, length, map, take, drop, get_or, slice_set, sym, ◌∙◌, ap, arith, append_assoc}
use Rattle.std.proofs.lemmas.Grind.{common_steps, drop_more_same}
use Rattle.std.proofs.lemmas.List.{map-set, take_more_set, length-map, get_or-drop, get_or-map, get_or-take, take_more, length-drop, drop-map, drop-set-lt, get_or_default, length-take, length-take-le}
use Rattle.std.proofs.lemmas.List.{take-take, take_at, drop-take, drop_at, map-append, take-append-le}

-- one more of a list that is mapped
pub map_next : {X Y : Type 0} (f : X → Y) (xs : List X) (n : ℕ) (x : X) → n < length xs → x ≡ get_or xs n x → take (n + 1) (map f xs) ≡ take n (map f xs) ++ f x ∷ []
map_next f xs n x l e = grind (arith, common_steps, take_more (map f xs) n (f x), get_or-map f xs n x (f x), length-map xs f) steps 200000

-- a list is put behind the front, one by one
pub put_next : {X Y : Type 0} (f : X → Y) (start : List Y) (put more : List Y) (all : List X) (at n : ℕ) (x : X) → at + n < length all → more ≡ put ++ f x ∷ []
    → take (at + n) (map f all) ≡ start ++ put → take (at + (n + 1)) (map f (slice_set all (at + n) x)) ≡ start ++ more
put_next f start put more all at n x l m e = grind (arith, common_steps, map-set, take_more_set, length-map) steps 200000

-- one more of a range
pub range_next : {X Y : Type 0} (f : X → Y) (xs : List X) (from n : ℕ) (x d : X) → from + n < length xs → f x ≡ f (get_or xs (from + n) d)
    → take (n + 1) (drop from (map f xs)) ≡ take n (drop from (map f xs)) ++ f x ∷ []
range_next f xs from n x d l e = search (rules, drop-map, get_or-drop, get_or_default, length-drop, map_next)

-- lists that have the same end have the same members there
pub same_end : {X : Type 0} (xs ys : List X) (k m : ℕ) (d : X) → k ≤ m → drop k xs ≡ drop k ys → get_or xs m d ≡ get_or ys m d
same_end xs ys k m d l e = grind (arith, common_steps, get_or-drop k xs (m - k) d, get_or-drop k ys (m - k) d) steps 200000

-- what is put does not change the end
pub end_kept : {X : Type 0} (all first : List X) (at n : ℕ) (x : X) → drop (at + n) all ≡ drop (at + n) first → drop (at + (n + 1)) (slice_set all (at + n) x) ≡ drop (at + (n + 1)) first
end_kept all first at n x e = grind (arith, common_steps, drop-set-lt (at + (n + 1)) all (at + n) x, drop_more_same all first (at + n)) steps 200000

-- what was put behind the front is there, and the front is the same
pub put_behind : {X : Type 0} (before after more : List X) (n m : ℕ) → n ≤ length before → length more ≡ m → take (n + m) after ≡ take n before ++ more
    → (take n after ≡ take n before) × (take m (drop n after) ≡ more)
put_behind before after more n m l k e =
    let cut = length-take-le n before l in (
      sym (take-take n (n + m) after (omega arith)) ∙ ap (take n) e ∙ take_at (take n before) more n cut,
      sym (drop-take n m after) ∙ ap (drop n) e ∙ drop_at (take n before) more n cut,
    )

-- a list that is written back whole
pub written_back : {X : Type 0} (n : ℕ) (new old : List X) → n ≡ length old → length new ≡ length old → take n (new ++ drop (length new) old) ≡ new
written_back n new old e l = take_at new (drop (length new) old) n (omega arith)

-- the front of a list that is longer now
pub front_grown : {X Y : Type 0} (f : X → Y) (xs more ys : List X) (n : ℕ) → n ≤ length xs → ys ≡ xs ++ more → take n (map f ys) ≡ take n (map f xs)
front_grown f xs more ys n l e = ap (λ w. take n (map f w)) e ∙ ap (take n) (map-append f xs more) ∙ take-append-le n (map f xs) (map f more) (omega (arith, length-map xs f))

-- a part of a list is as long as it is
pub part_long : {X : Type 0} (xs : List X) (at n : ℕ) (part : List X) → at + n ≤ length xs → take n (drop at xs) ≡ part → length part ≡ n
part_long xs at n part l e = let k = ap length e in omega (arith, length-take n (drop at xs), length-drop at xs)

-- members of a range and of a list that are the same
pub range_at : {X Y L : Type 0} (f : X → Y) (h : L → Y) (all : List X) (listed : List L) (at n : ℕ) (x : X) (s : L) → at + n < length all → n < length listed → x ≡ get_or all (at + n) x → s ≡ get_or listed n s
    → take (length listed) (drop at (map f all)) ≡ map h listed → f x ≡ h s
range_at f h all listed at n x s l k x_is s_is e =
    grind (arith, common_steps, get_or-drop at (map f all) n (f x), get_or-map f all (at + n) x (f x) l, get_or-map h listed n s (f x) k, get_or-take (length listed) (drop at (map f all)) n (f x) k) steps 200000
