-- Lists that are joined by a byte which none of them has.
use Rattle.std.proofs.{Common.{[], arith, ◌≡◌, ◌≢◌, ℕ, true, List, ◌∷◌, ◌++◌, refl, sym, ap, IsTrue}, lemmas.{Grind.{common_steps}, Bool.{and_parts}}}
use Rattle.std.specs.List.{AllByRecursion, list_all, join_with_byte}
use Rattle.mm_script.specs.Language.Script.{is_word_byte}

-- none of the bytes is this one
abbrev pub Lacks : ℕ → List ℕ → Type 0
Lacks c xs = AllByRecursion (λ b. b ≢ c) xs

pub split_at : (c : ℕ) (xs ys s t : List ℕ) → Lacks c xs → Lacks c ys → xs ++ c ∷ s ≡ ys ++ c ∷ t → (xs ≡ ys) × (s ≡ t)
split_at c [] [] s t f g e = (refl, cc)
split_at c [] (y ∷ ys) s t f g e = let same : y ≡ c = cc in absurd (g.0 same)
split_at c (x ∷ xs) [] s t f g e = let same : x ≡ c = cc in absurd (f.0 same)
split_at c (x ∷ xs) (y ∷ ys) s t f g e = grind (arith, common_steps, split_at c xs ys s t f.1 g.1 cc) steps 200000

pub not_inside : (c : ℕ) (xs ys s : List ℕ) → Lacks c xs → xs ≡ ys ++ c ∷ s → ⊥
not_inside c [] [] s f e = cc
not_inside c [] (y ∷ ys) s f e = cc
not_inside c (x ∷ xs) [] s f e = let same : x ≡ c = cc in f.0 same
not_inside c (x ∷ xs) (y ∷ ys) s f e = let rest : xs ≡ ys ++ c ∷ s = cc in not_inside c xs ys s f.1 rest

-- words that lack the byte between them are known from their join
pub same_words : (c : ℕ) (x y : List ℕ) (xs ys : List (List ℕ)) → AllByRecursion (Lacks c) (x ∷ xs) → AllByRecursion (Lacks c) (y ∷ ys) → join_with_byte c (x ∷ xs) ≡ join_with_byte c (y ∷ ys) → x ∷ xs ≡ y ∷ ys
same_words c x y [] [] f g e = ap (λ (w : List ℕ). w ∷ []) e
same_words c x y [] (z ∷ ys) f g e = absurd (not_inside c x y (join_with_byte c (z ∷ ys)) f.0 e)
same_words c x y (z ∷ xs) [] f g e = absurd (not_inside c y x (join_with_byte c (z ∷ xs)) g.0 (sym e))
same_words c x y (z ∷ xs) (w ∷ ys) f g e =
    grind (arith, common_steps, same_words c z w xs ys f.1 g.1 (split_at c x y (join_with_byte c (z ∷ xs)) (join_with_byte c (w ∷ ys)) f.0 g.0 e).1, split_at) steps 200000

lacks_more : (c : ℕ) (xs ys : List ℕ) → Lacks c xs → Lacks c ys → Lacks c (xs ++ ys)
lacks_more c [] ys f g = g
lacks_more c (x ∷ xs) ys f g = (f.0, lacks_more c xs ys f.1 g)

-- a join lacks each other byte that its words lack
pub join_lacks : (c d : ℕ) (words : List (List ℕ)) → c ≢ d → AllByRecursion (Lacks d) words → Lacks d (join_with_byte c words)
join_lacks c d [] apart f = tt
join_lacks c d (x ∷ []) apart f = f.0
join_lacks c d (x ∷ y ∷ xs) apart f = lacks_more d x (c ∷ join_with_byte c (y ∷ xs)) f.0 (apart, join_lacks c d (y ∷ xs) apart f.1)

pub word_byte : (b : ℕ) → IsTrue (is_word_byte b) → (b ≢ 32) × (b ≢ 10)
word_byte b h = grind (arith, common_steps) steps 200000

pub solid_space : (xs : List ℕ) → list_all is_word_byte xs ≡ true → Lacks 32 xs
solid_space [] h = tt
solid_space (x ∷ xs) h = let both = and_parts (is_word_byte x) (list_all is_word_byte xs) h in ((word_byte x both.0).0, solid_space xs both.1)

pub solid_feed : (xs : List ℕ) → list_all is_word_byte xs ≡ true → Lacks 10 xs
solid_feed [] h = tt
solid_feed (x ∷ xs) h = let both = and_parts (is_word_byte x) (list_all is_word_byte xs) h in ((word_byte x both.0).1, solid_feed xs both.1)
