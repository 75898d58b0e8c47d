-- The words that are a command, by how many there are.
use Rattle.std.proofs.{Common.{[], ◌≡◌, ◌≢◌, ℕ, true, false, List, ◌∷◌, length, get_or, refl, sym, ◌∙◌, ap, arith, codes, bytes_eq}, lemmas.{List.{length-map}, Slice.Eq.{bytes_eq-Decides}}}
use Rattle.std.specs.Borrow.{Bor}
use Rattle.mmkeep.specs.{declared.arguments.Invocation.{Invocation, TheVariants.{Verify, Axioms, Session}}, Language.Asking.{said, words_of}}

-- the words that are given, if there are two or three, and the first of them is this one
pub said_two : (words : List (Bor (List ℕ))) (d : Bor (List ℕ)) (first : List ℕ) → length words ≡ 2 → (get_or words 0 d).now ≡ first
    → said words ≡ first ∷ ((get_or words 1 d).now ∷ [])
said_two [] d first l e = cc
said_two (x ∷ (y ∷ [])) d first l e = ap (λ (w : List ℕ). w ∷ (y.now ∷ [])) e
said_two _ d first l e = absurd (omega arith)

pub said_three : (words : List (Bor (List ℕ))) (d : Bor (List ℕ)) (first : List ℕ) → length words ≡ 3 → (get_or words 0 d).now ≡ first
    → said words ≡ first ∷ ((get_or words 1 d).now ∷ ((get_or words 2 d).now ∷ []))
said_three [] d first l e = cc
said_three (x ∷ (y ∷ (z ∷ []))) d first l e = ap (λ (w : List ℕ). w ∷ (y.now ∷ (z.now ∷ []))) e
said_three _ d first l e = absurd (omega arith)

-- ---- no command

-- words that are not the same
pub differs : (xs ys : List ℕ) → false ≡ bytes_eq xs ys → xs ≢ ys
differs xs ys f e = let t : bytes_eq xs ys ≡ true = (bytes_eq-Decides xs ys).1 e in absurd (cc)

first_of : List (List ℕ) → List ℕ
first_of [] = []
first_of (word ∷ words) = word

-- as many words are given as are said
same_length : (words : List (Bor (List ℕ))) (asked : Invocation) → said words ≡ words_of asked → length words ≡ length (words_of asked)
same_length words asked e = sym (length-map words (λ (word : Bor (List ℕ)). word.now)) ∙ ap length e

-- two words, the first of which is neither of those that a command of two words begins with
pub no_two : (words : List (Bor (List ℕ))) (d : Bor (List ℕ)) → length words ≡ 2
    → (get_or words 0 d).now ≢ codes "verify" → (get_or words 0 d).now ≢ codes "session" → (asked : Invocation) → said words ≡ words_of asked → ⊥
unfolding first_of
no_two words d l v s (Verify file) e = v (ap first_of (sym (said_two words d _ l refl) ∙ e))
no_two words d l v s (Axioms file label) e = let n : length words ≡ 3 = same_length words (Axioms file label) e in absurd (omega (arith, l, n))
no_two words d l v s (Session file) e = s (ap first_of (sym (said_two words d _ l refl) ∙ e))

-- three words, the first of which is not that of a command of three words
pub no_three : (words : List (Bor (List ℕ))) (d : Bor (List ℕ)) → length words ≡ 3
    → (get_or words 0 d).now ≢ codes "axioms" → (asked : Invocation) → said words ≡ words_of asked → ⊥
unfolding first_of
no_three words d l a (Verify file) e = let n : length words ≡ 2 = same_length words (Verify file) e in absurd (omega (arith, l, n))
no_three words d l a (Axioms file label) e = a (ap first_of (sym (said_three words d _ l refl) ∙ e))
no_three words d l a (Session file) e = let n : length words ≡ 2 = same_length words (Session file) e in absurd (omega (arith, l, n))

-- neither two words nor three
pub no_other : (words : List (Bor (List ℕ))) → length words ≢ 2 → length words ≢ 3 → (asked : Invocation) → said words ≡ words_of asked → ⊥
no_other words t s (Verify file) e = t (same_length words (Verify file) e)
no_other words t s (Axioms file label) e = s (same_length words (Axioms file label) e)
no_other words t s (Session file) e = t (same_length words (Session file) e)
