-- What is in a list, by recursion, and what tests find.
use Rattle.std.proofs.lemmas.{Option.{slice_get_read, slice_get_within, slice_get-get_or, get_or_from_slice_get}, List.{length-take, get_or-take}, Grind.{common_steps}}
use Rattle.std.proofs.lemmas.{Bool.{or_cases, false≢true, or_left, or_right}, Slice.Eq.{bytes_eq-Decides}}
use Rattle.std.proofs.Common.{◌∙◌, take, arith, ◌≡◌, ℕ, zero, suc, ◌<◌, Bool, true, false, cond, Some, List, [], ◌∷◌, ◌++◌, length, map, filter, flat_map, bytes_eq, slice_get, refl, sym, ap, subst}
use Rattle.std.proofs.Common.{inl, inr, ◌⊎◌, Contains}
use Rattle.mm_statement.specs.Language.Item.{Kind, Said, has}
use Rattle.mm_frame.specs.Language.Scope.{symbols_by}

-- x is in the list
abbrev pub In : {X : Type 0} → X → List X → Type 0
In x [] = ⊥
In x (y ∷ ys) = (y ≡ x) ⊎ In x ys

pub in_get : {X : Type 0} (x : X) (xs : List X) → In x xs → (k : ℕ) × (slice_get xs k ≡ Some x)
in_get x [] h = absurd h
in_get x (y ∷ ys) (inl e) = (0, ap Some e)
in_get x (y ∷ ys) (inr h) = let r = in_get x ys h in (suc r.0, r.1)

pub get_in : {X : Type 0} (x : X) (xs : List X) (k : ℕ) → slice_get xs k ≡ Some x → In x xs
get_in x [] k e = cc
get_in x (y ∷ ys) zero e = inl (cc)
get_in x (y ∷ ys) (suc k) e = inr (get_in x ys k e)

pub get_join : {X : Type 0} (xs ys : List X) (n : ℕ) (x : X) → slice_get xs n ≡ Some x → slice_get (xs ++ ys) n ≡ Some x
get_join [] ys n x e = cc
get_join (z ∷ xs) ys zero x e = e
get_join (z ∷ xs) ys (suc n) x e = get_join xs ys n x e

pub get_between : {X : Type 0} (front : List X) (item : X) (back : List X) → slice_get (front ++ item ∷ back) (length front) ≡ Some item
get_between [] item back = refl
get_between (x ∷ front) item back = get_between front item back

pub get_taken : {X : Type 0} (xs : List X) (i n : ℕ) (x : X) → slice_get (take i xs) n ≡ Some x → (n < i) × (slice_get xs n ≡ Some x)
get_taken xs i n x e =
    let w = slice_get_within (take i xs) n x e in
    let v = length-take i xs in
    (omega arith, slice_get_read xs _ n x refl (omega arith) (sym (get_or_from_slice_get (take i xs) n x x e) ∙ get_or-take i xs n x (omega arith)))

pub front_get : {X : Type 0} (xs : List X) (i n : ℕ) (x : X) → n < i → slice_get xs n ≡ Some x → slice_get (take i xs) n ≡ Some x
front_get xs i n x l e =
    slice_get_read (take i xs) _ n x refl (omega (arith, length-take i xs, slice_get_within xs n x e))
    (sym (get_or-take i xs n x l ∙ get_or_from_slice_get xs n x x e))

pub in_contains : {X : Type 0} (x : X) (xs : List X) → In x xs → Contains xs x
in_contains x xs h = let g = in_get x xs h in (g.0, slice_get_within xs g.0 x g.1, get_or_from_slice_get xs g.0 x x g.1)

pub contains_in : {X : Type 0} (x : X) (xs : List X) → Contains xs x → In x xs
contains_in x xs c = get_in x xs c.0 (slice_get-get_or xs c.0 x c.1 ∙ ap Some c.2)

pub in_left : {X : Type 0} (x : X) (xs ys : List X) → In x xs → In x (xs ++ ys)
in_left x [] ys h = absurd h
in_left x (y ∷ xs) ys (inl e) = inl e
in_left x (y ∷ xs) ys (inr h) = inr (in_left x xs ys h)

pub in_right : {X : Type 0} (x : X) (xs ys : List X) → In x ys → In x (xs ++ ys)
in_right x [] ys h = h
in_right x (y ∷ xs) ys h = inr (in_right x xs ys h)

pub in_cases : {X : Type 0} (x : X) (xs ys : List X) → In x (xs ++ ys) → In x xs ⊎ In x ys
in_cases x [] ys h = inr h
in_cases x (y ∷ xs) ys (inl e) = inl (inl e)
in_cases x (y ∷ xs) ys (inr h) = elim (in_cases x xs ys h) [ inl a ↦ inl (inr a) | inr b ↦ inr b ]

pub in_map : {X Y : Type 0} (f : X → Y) (x : X) (xs : List X) → In x xs → In (f x) (map f xs)
in_map f x [] h = absurd h
in_map f x (y ∷ xs) (inl e) = inl (ap f e)
in_map f x (y ∷ xs) (inr h) = inr (in_map f x xs h)

pub from_map : {X Y : Type 0} (f : X → Y) (y : Y) (xs : List X) → In y (map f xs) → (x : X) × In x xs × (f x ≡ y)
from_map f y [] h = absurd h
from_map f y (x ∷ xs) (inl e) = (x, inl refl, e)
from_map f y (x ∷ xs) (inr h) = let r = from_map f y xs h in (r.0, inr r.1, r.2)

-- what is in a list whose first element is kept under a condition
pub in_first : {X : Type 0} (b : Bool) (x : X) (xs : List X) → b ≡ true → In x (cond b (x ∷ xs) xs)
in_first b x xs e = subst (λ c. In x (cond c (x ∷ xs) xs)) (sym e) (inl refl)

pub in_later : {X : Type 0} (b : Bool) (x y : X) (xs : List X) → In x xs → In x (cond b (y ∷ xs) xs)
in_later true x y xs h = inr h
in_later false x y xs h = h

pub first_cases : {X : Type 0} (b : Bool) (x i : X) (xs : List X) → In i (cond b (x ∷ xs) xs) → ((x ≡ i) × (b ≡ true)) ⊎ In i xs
first_cases true x i xs (inl e) = inl (e, refl)
first_cases true x i xs (inr h) = inr h
first_cases false x i xs h = inr h

pub in_filter : {X : Type 0} (p : X → Bool) (x : X) (xs : List X) → In x xs → p x ≡ true → In x (filter p xs)
in_filter p x [] h t = absurd h
in_filter p x (y ∷ xs) (inl e) t = subst (λ w. In x (cond (p y) (w ∷ filter p xs) (filter p xs))) (sym e) (in_first (p y) x (filter p xs) (ap p e ∙ t))
in_filter p x (y ∷ xs) (inr h) t = in_later (p y) x y (filter p xs) (in_filter p x xs h t)

pub from_filter : {X : Type 0} (p : X → Bool) (x : X) (xs : List X) → In x (filter p xs) → In x xs × (p x ≡ true)
from_filter p x [] h = absurd h
from_filter p x (y ∷ xs) h = elim (first_cases (p y) y x (filter p xs) h) [
  | inl q ↦ (inl q.0, ap p (sym q.0) ∙ q.1)
  | inr k ↦ (let r = from_filter p x xs k in (inr r.0, r.1))
]

pub in_flat : {X Y : Type 0} (f : X → List Y) (x : X) (y : Y) (xs : List X) → In x xs → In y (f x) → In y (flat_map f xs)
in_flat f x y [] h k = absurd h
in_flat f x y (z ∷ xs) (inl e) k = in_left y (f z) (flat_map f xs) (subst (λ w. In y (f w)) (sym e) k)
in_flat f x y (z ∷ xs) (inr h) k = in_right y (f z) (flat_map f xs) (in_flat f x y xs h k)

pub from_flat : {X Y : Type 0} (f : X → List Y) (y : Y) (xs : List X) → In y (flat_map f xs) → (x : X) × In x xs × In y (f x)
from_flat f y [] h = absurd h
from_flat f y (z ∷ xs) h = elim (in_cases y (f z) (flat_map f xs) h) [ inl a ↦ (z, inl refl, a) | inr b ↦ (let r = from_flat f y xs b in (r.0, inr r.1, r.2)) ]

pub has_in : (names : List (List ℕ)) (n : List ℕ) → has names n ≡ true → In n names
has_in [] n h = absurd (false≢true h)
has_in (m ∷ names) n h = elim (or_cases (bytes_eq n m) (has names n) h) [ inl e ↦ inl (sym ((bytes_eq-Decides n m).0 e)) | inr t ↦ inr (has_in names n t) ]

pub in_has : (names : List (List ℕ)) (n : List ℕ) → In n names → has names n ≡ true
in_has [] n h = absurd h
in_has (m ∷ names) n (inl e) = or_left (bytes_eq n m) (has names n) ((bytes_eq-Decides n m).1 (sym e))
in_has (m ∷ names) n (inr h) = or_right (bytes_eq n m) (has names n) (in_has names n h)

-- the symbols of items whose kind passes a test
pub in_cond : {X : Type 0} (b : Bool) (n : X) (names : List X) → In n (cond b names []) → (b ≡ true) × In n names
in_cond true n names h = (refl, h)
in_cond false n names h = absurd h

pub from_symbols : (test : Kind → Bool) (n : List ℕ) (items : List Said) → In n (symbols_by test items) → (i : Said) × In i items × (test i.kind ≡ true) × In n i.symbols
from_symbols test n items h = grind (arith, common_steps, from_flat, in_cond) steps 200000

pub to_symbols : (test : Kind → Bool) (n : List ℕ) (items : List Said) (i : Said) → In i items → test i.kind ≡ true → In n i.symbols → In n (symbols_by test items)
to_symbols test n items i h t k = in_flat (λ (item : Said). cond (test item.kind) item.symbols []) i n items h (subst (λ b. In n (cond b i.symbols [])) (sym t) k)
