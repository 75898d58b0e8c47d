-- What soundness gives.
use Rattle.std.proofs.Common.{inl, inr, arith, ap, length-append, ◌≡◌, ℕ, suc, ◌+◌, Bool, true, false, ◌&&◌, ltb, ◌==◌, Some, List, [], ◌∷◌, ◌++◌, length, slice_get, refl, sym, ◌∙◌, subst}
use Rattle.std.proofs.{Common.{append_assoc, append-nil, ◌⊎◌}, lemmas.{Grind.{common_steps}, Bool.{false≢true, or_parts, or_cases, le-leb, lt-ltb, not-false}}}
use Rattle.mm_frame.specs.Language.Sound.{AreSound, closing_word, at_symbol, as_any, as_first, as_second, as_later, is_third, is_declared, is_active_symbol, is_no_constant, is_no_variable}
use Rattle.mm_frame.specs.Language.{Sound.{is_no_active_symbol, is_typed, is_short, IsSound}, Scope.{active, symbols_by, constants, variables, active_variables, typed}}
use Rattle.mm_frame.{specs.declared.FrameNumber.TheVariants.{F01, F04, F08, F09, F10, F12}, proofs.lemmas.lists.Members.{In, in_cases, in_get, has_in, in_has, from_symbols, to_symbols}}
use Rattle.mm_frame.proofs.lemmas.scope.ActiveBySplit.{active_in}
use Rattle.mm_statement.specs.Language.Item.{first_symbol, Kind, Said, is_kind, Constants, Floating, Variables, is_expression, is_labelled, has}

pub and_rest : (x y : Bool) → (x && y) ≡ false → x ≡ true → y ≡ false
and_rest true y h e = h
and_rest false y h e = absurd (false≢true e)

-- a test that fails at all words fails at each symbol
pub no_symbol : (test : ℕ → List ℕ → Bool) (item : Said) → ((word : ℕ) → at_symbol test item word ≡ false) → (k : ℕ) (name : List ℕ) → slice_get item.symbols k ≡ Some name → test k name ≡ false
no_symbol test item h k name s = grind (arith, common_steps, and_rest, le-leb, h (first_symbol item + k)) steps 200000

-- the same for a line that a kind of statements has
pub no_symbol_of : (b : Bool) (test : ℕ → List ℕ → Bool) (item : Said) → ((word : ℕ) → (b && at_symbol test item word) ≡ false) → b ≡ true → (k : ℕ) (name : List ℕ) → slice_get item.symbols k ≡ Some name → test k name ≡ false
no_symbol_of b test item h t k name s = no_symbol test item (λ word. and_rest b (at_symbol test item word) (h word) t) k name s

-- the beginning of sound items is sound, and so is what is sound after them
pub sound_front : (front back : List Said) → AreSound (front ++ back) → AreSound front
sound_front front back h f item b e = h f item (b ++ back) (ap (λ w. w ++ back) e ∙ append_assoc f (item ∷ b) back)

last_or_earlier : (items : List Said) (item : Said) (front : List Said) (x : Said) (back : List Said) → items ++ item ∷ [] ≡ front ++ x ∷ back
    → ((rest : List Said) × (items ≡ front ++ x ∷ rest)) ⊎ ((items ≡ front) × (item ≡ x))
last_or_earlier [] item [] x back e = inr (refl, cc)
last_or_earlier [] item (y ∷ front) x back e = absurd (omega (arith, ap length e, length-append front (x ∷ back)))
last_or_earlier (y ∷ items) item [] x back e = let q : y ≡ x = cc in inl (items, ap (λ w. w ∷ items) q)
last_or_earlier (y ∷ items) item (z ∷ front) x back e = grind (arith, common_steps, last_or_earlier items item front x back cc) steps 200000

pub sound_more : (items : List Said) (item : Said) → AreSound items → IsSound items item → AreSound (items ++ item ∷ [])
sound_more items item h s front x back e = grind (arith, common_steps, last_or_earlier items item front x back e) steps 200000

-- no constant is a variable
abbrev pub AreApart : List Said → Type 0
AreApart before = (n : List ℕ) → In n (constants before) → In n (variables before) → ⊥

snoc_symbols : (test : Kind → Bool) (n : List ℕ) (before : List Said) (x : Said) → In n (symbols_by test (before ++ x ∷ [])) → In n (symbols_by test before) ⊎ ((test x.kind ≡ true) × In n x.symbols)
snoc_symbols test n before x h =
    let r = from_symbols test n (before ++ x ∷ []) h in
    elim (in_cases r.0 before (x ∷ []) r.1) [
      | inl a ↦ inl (to_symbols test n before r.0 a r.2 r.3)
      | inr b ↦ grind (arith, common_steps) steps 200000
    ]

apart_one : (before : List Said) (x : Said) → AreApart before → IsSound before x → AreApart (before ++ x ∷ [])
apart_one before x a s n c v = elim (snoc_symbols (is_kind Constants) n before x c) [
  | inl old_c ↦ elim (snoc_symbols (is_kind Variables) n before x v) [
    | inl old_v ↦ a n old_c old_v
    | inr new_v ↦ let g =
        in_get n x.symbols new_v.1 in
        let f = no_symbol_of (is_kind Variables x.kind) (as_any (is_active_symbol before)) x (λ word. (or_parts _ _ (s word F04)).1) new_v.0 g.0 n g.1 in
        false≢true (sym (or_parts (has (constants before) n) (has (active_variables before) n) f).0 ∙ in_has (constants before) n old_c)
  ]
  | inr new_c ↦ elim (snoc_symbols (is_kind Variables) n before x v) [
    | inl old_v ↦ let g =
        in_get n x.symbols new_c.1 in
        false≢true (sym (or_parts (has (constants before) n) (has (variables before) n)
        (no_symbol_of (is_kind Constants x.kind) (as_any (is_declared before)) x (λ word. (or_parts _ _ (s word F04)).0) new_c.0 g.0 n g.1)).1
        ∙ in_has (variables before) n old_v)
    | inr new_v ↦ grind (arith, common_steps, new_c.0, new_v.0) steps 200000
  ]
]

apart_from : (before xs : List Said) → AreApart before → AreSound (before ++ xs) → AreApart (before ++ xs)
apart_from before [] a h = subst AreApart (sym (append-nil before)) a
apart_from before (x ∷ xs) a h =
    subst AreApart (append_assoc before (x ∷ []) xs)
    (apart_from (before ++ x ∷ []) xs (apart_one before x a (h before x xs refl)) (subst AreSound (sym (append_assoc before (x ∷ []) xs)) h))

pub apart : (xs : List Said) → AreSound xs → AreApart xs
apart xs k = apart_from [] xs (λ n c v. c) k

-- an active variable is no constant
pub not_constant : (xs : List Said) → AreSound xs → (n : List ℕ) → In n (constants xs) → In n (active_variables xs) → ⊥
not_constant xs k n c v =
    let r = from_symbols (is_kind Variables) n (active xs) v in
    apart xs k n c (to_symbols (is_kind Variables) n xs r.0 (active_in xs r.0 r.1) r.2 r.3)

-- what the lines of expressions say
pub first_constant : (before : List Said) (item : Said) (name : List ℕ) → IsSound before item → is_labelled item.kind ≡ true → slice_get item.symbols 0 ≡ Some name → In name (constants before)
first_constant before item name s t g =
    has_in (constants before) name (not-false (has (constants before) name) (no_symbol_of (is_labelled item.kind) (as_first (is_no_constant before)) item (λ word. s word F08) t 0 name g))

pub known : (before : List Said) (item : Said) (k : ℕ) (name : List ℕ) → IsSound before item → is_expression item.kind ≡ true → slice_get item.symbols (suc k) ≡ Some name → In name (constants before) ⊎ In name (active_variables before)
known before item k name s t g =
    let f = no_symbol_of (is_expression item.kind) (as_later (is_no_active_symbol before)) item (λ word. s word F10) t (suc k) name g in
    grind (arith, common_steps, not-false, and_rest, lt-ltb, or_cases, has_in) steps 200000

-- what the lines of `$f` say
pub float_variable : (before : List Said) (item : Said) (name : List ℕ) → IsSound before item → is_kind Floating item.kind ≡ true → slice_get item.symbols 1 ≡ Some name → In name (active_variables before)
float_variable before item name s t g =
    has_in (active_variables before) name (not-false (has (active_variables before) name) (no_symbol_of (is_kind Floating item.kind) (as_second (is_no_variable before)) item (λ word. (or_parts _ _ (s word F09)).1) t 1 name g))

pub float_new : (before : List Said) (item : Said) (name : List ℕ) → IsSound before item → is_kind Floating item.kind ≡ true → slice_get item.symbols 1 ≡ Some name → In name (typed before) → ⊥
float_new before item name s t g h =
    false≢true (sym (no_symbol_of (is_kind Floating item.kind) (as_second (is_typed before)) item (λ word. s word F12) t 1 name g) ∙ in_has (typed before) name h)

-- a `$f` has two symbols
two_of : (symbols : List (List ℕ)) → ltb (length symbols) 2 ≡ false → ((name : List ℕ) → slice_get symbols 2 ≡ Some name → ⊥) → (a : List ℕ) × (b : List ℕ) × (symbols ≡ a ∷ b ∷ [])
two_of (a ∷ b ∷ []) l h = (a, b, refl)
two_of (a ∷ b ∷ c ∷ more) l h = absurd (h c refl)
two_of _ l h = absurd (false≢true (sym l))

pub float_two : (before : List Said) (item : Said) → IsSound before item → is_kind Floating item.kind ≡ true → (a : List ℕ) × (b : List ℕ) × (item.symbols ≡ a ∷ b ∷ [])
float_two before item s t =
    let few = (or_parts (is_short item.kind (length item.symbols) && closing_word item == closing_word item) (is_kind Floating item.kind && at_symbol is_third item (closing_word item)) (s (closing_word item) F01)).0 in
    two_of item.symbols (sym (grind (arith, common_steps) steps 200000)
    ∙ and_short (is_short item.kind (length item.symbols)) (closing_word item == closing_word item) few
    (Rattle.std.proofs.lemmas.Bool.eq-eqb (closing_word item) (closing_word item) refl))
    (λ name g. false≢true (sym (no_symbol_of (is_kind Floating item.kind) is_third item (λ word. (or_parts _ _ (s word F01)).1) t 2 name g))) where
      and_short : (x y : Bool) → (x && y) ≡ false → y ≡ true → x ≡ false
      and_short true y h e = absurd (false≢true (sym h ∙ e))
      and_short false y h e = refl
