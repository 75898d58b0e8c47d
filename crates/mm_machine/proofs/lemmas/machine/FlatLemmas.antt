-- Ranges of a flat list, and the expressions under what they give.
use Rattle.std.proofs.lemmas.Grind.{common_steps, elements, flat_map-append}
use Rattle.std.proofs.lemmas.List.{append-nil, take_more, take-append-drop, take-map, drop-map, length-map, drop-drop, get_or-map, get_or_default, length-take, length-drop, get_or-take, get_or-drop}
use Rattle.std.proofs.lemmas.Option.{slice_get_within, get_or_from_slice_get, slice_get-get_or}
use Rattle.std.proofs.Common.{◌≡◌, ℕ, zero, suc, ◌+◌, ◌-◌, ◌<◌, Some, List, [], ◌∷◌, ◌++◌, length, map, take, drop, get_or, min, sym, ◌∙◌, ap, arith, slice_get, refl}
use Rattle.mm_machine.specs.Language.{Frame.{Symbol}, Substitution.{substituted, replacement}, CodeLists.{range_of}}

-- what is at a place of a list that is mapped
pub mapped_at : {X Y : Type 0} (f : X → Y) (xs : List X) (n : ℕ) (x : X) (y : Y) → n < length xs → x ≡ get_or xs n x → slice_get (map f xs) n ≡ Some y → y ≡ f x
mapped_at f xs n x y l is e = grind (arith, common_steps, get_or_from_slice_get (map f xs) n y (f x) e, get_or-map f xs n x (f x) l) steps 200000

pub mapped_get : {X Y : Type 0} (f : X → Y) (xs : List X) (n : ℕ) (x : X) → n < length xs → x ≡ get_or xs n x → slice_get (map f xs) n ≡ Some (f x)
mapped_get f xs n x l is = grind (arith, common_steps, length-map xs f, slice_get-get_or (map f xs) n (f x) (omega (arith, length-map xs f)), get_or-map f xs n x (f x) l) steps 200000

-- there is an element at each place
pub there_at : {X Y : Type 0} (f : X → Y) (xs : List X) (n : ℕ) → n < length xs → (y : Y) × (slice_get (map f xs) n ≡ Some y)
there_at f [] n l = absurd (omega arith)
there_at f (x ∷ xs) zero l = (f x, refl)
there_at f (x ∷ xs) (suc n) l = there_at f xs n (omega arith)

-- an element of a list that is mapped
pub unmapped : {X Y : Type 0} (f : X → Y) (xs : List X) (n : ℕ) (y : Y) → slice_get (map f xs) n ≡ Some y → (x : X) × (slice_get xs n ≡ Some x) × (f x ≡ y)
unmapped f [] n y e = cc
unmapped f (x ∷ xs) zero y e = (x, refl, (cc))
unmapped f (x ∷ xs) (suc n) y e = unmapped f xs n y e

-- the same at any default
pub mapped_or : {X Y : Type 0} (f : X → Y) (xs : List X) (n : ℕ) (d : X) (y : Y) → n < length xs → slice_get (map f xs) n ≡ Some y → y ≡ f (get_or xs n d)
mapped_or f xs n d y l e = mapped_at f xs n (get_or xs n d) y l (get_or_default xs n d (get_or xs n d) l) e

-- after the first symbol of a range
pub drop_one_take : {X : Type 0} (m : ℕ) (xs : List X) → drop 1 (take m xs) ≡ take (m - 1) (drop 1 xs)
drop_one_take zero [] = grind (arith, elements) steps 200000
drop_one_take zero (x ∷ xs) = grind (arith, elements) steps 200000
drop_one_take (suc m) [] = grind (arith, elements) steps 200000
drop_one_take (suc m) (x ∷ xs) = grind (arith, elements) steps 200000

pub behind_first : {X Y : Type 0} (f : X → Y) (xs : List X) (a b : ℕ) → map f (take (b - (a + 1)) (drop (a + 1) xs)) ≡ drop 1 (take (b - a) (drop a (map f xs)))
behind_first f xs a b = grind (arith, common_steps, take-map f (b - (a + 1)) (drop (a + 1) xs), drop-map f (a + 1) xs, drop-drop 1 a (map f xs), drop_one_take (b - a) (drop a (map f xs))) steps 200000

-- an expression, symbol by symbol
pub put_more : (given : Symbol → List Symbol) (expression : List Symbol) (k : ℕ) (s : Symbol) → slice_get expression k ≡ Some s → substituted given (take (k + 1) expression) ≡ substituted given (take k expression) ++ replacement given s
put_more given expression k s e =
    ap (substituted given) (take_more expression k s (slice_get_within expression k s e))
    ∙ flat_map-append (replacement given) (take k expression) (get_or expression k s ∷ [])
    ∙ ap (λ w. substituted given (take k expression) ++ w) (append-nil (replacement given (get_or expression k s)))
    ∙ ap (λ w. substituted given (take k expression) ++ replacement given w) (get_or_from_slice_get expression k s s e)

-- the whole expression, by the symbols so far, one more, and the rest
pub put_rest : (given : Symbol → List Symbol) (expression : List Symbol) (k : ℕ) (s : Symbol) → slice_get expression k ≡ Some s
    → substituted given expression ≡ substituted given (take k expression) ++ (replacement given s ++ substituted given (drop (k + 1) expression))
put_rest given expression k s e =
    grind (arith, common_steps, take-append-drop (k + 1) expression, flat_map-append (replacement given) (take (k + 1) expression) (drop (k + 1) expression), put_more given expression k s e) steps 200000

pub mapped_or_get : {X Y : Type 0} (f : X → Y) (xs : List X) (n : ℕ) (d : X) → n < length xs → slice_get (map f xs) n ≡ Some (f (get_or xs n d))
mapped_or_get f xs n d l = mapped_get f xs n (get_or xs n d) l (get_or_default xs n d (get_or xs n d) l)

-- the first element of a range
pub range_first : {X Y : Type 0} (f : X → Y) (xs : List X) (a b : ℕ) (x : X) → a < b → a < length xs → x ≡ get_or xs a x → slice_get (range_of a b (map f xs)) 0 ≡ Some (f x)
range_first f xs a b x some within is =
    let ys = map f xs in
    let long : length (range_of a b ys) ≡ min (b - a) (length ys - a) = length-take (b - a) (drop a ys) ∙ ap (min (b - a)) (length-drop a ys) in
    let here : 0 < length (range_of a b ys) = omega (arith, long, length-map xs f) in
    slice_get-get_or (range_of a b ys) 0 (f x) here
    ∙ ap Some (get_or-take (b - a) (drop a ys) 0 (f x) (omega arith) ∙ get_or-drop a ys 0 (f x) ∙ ap (λ k. get_or ys k (f x)) (omega arith) ∙ get_or-map f xs a x (f x) within ∙ ap f (sym is))

-- and where it is in the whole list
pub range_at : {X : Type 0} (a b : ℕ) (xs : List X) (x : X) → slice_get (range_of a b xs) 0 ≡ Some x → slice_get xs a ≡ Some x
range_at a b xs x at =
    let long : length (range_of a b xs) ≡ min (b - a) (length xs - a) = length-take (b - a) (drop a xs) ∙ ap (min (b - a)) (length-drop a xs) in
    let here = slice_get_within (range_of a b xs) 0 x at in
    slice_get-get_or xs a x (omega (arith, long, here))
    ∙ ap Some (ap (λ k. get_or xs k x) (omega arith) ∙ sym (get_or-drop a xs 0 x) ∙ sym (get_or-take (b - a) (drop a xs) 0 x (omega (arith, long, here)))
    ∙ get_or_from_slice_get (range_of a b xs) 0 x x at)
