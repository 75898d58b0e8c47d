-- The n-th word, found by reading on.
use Rattle.std.proofs.lemmas.{Grind.{common_steps}, Option.{slice_get_past}}
use Rattle.std.proofs.Common.{◌≡◌, ℕ, zero, suc, ◌+◌, ◌<◌, ◌≤◌, List, [], ◌∷◌, Option, None, Ok, drop, length, refl, sym, ap, ◌∙◌, arith, slice_get, MatchOption, drop-drop, length-drop}
use Rattle.mm_text.specs.{declared.word.Word.{Word}, Code.LeftToRight.{Read, cons_word}}

-- what is read after the first word
pub first_word : (old new : Read) (word : Word) (rest : List Word) → old ≡ cons_word word new → old ≡ Ok rest → (more : List Word) × (rest ≡ word ∷ more) × (new ≡ Ok more)
first_word old new word rest e is = grind (arith, common_steps) steps 200000

-- the first of the words from a place on
first_at : {X : Type 0} (xs : List X) (n : ℕ) → slice_get (drop n xs) 0 ≡ slice_get xs n
first_at xs zero = refl
first_at [] (suc n) = refl
first_at (x ∷ xs) (suc n) = first_at xs n

-- one more word is taken
pub goes_on : (words left new : List Word) (n : ℕ) (word : Word) → left ≡ drop n words → left ≡ word ∷ new → new ≡ drop (n + 1) words
goes_on words left new n word at e = sym (sym (drop-drop 1 n words) ∙ ap (drop 1) (sym at ∙ e))

-- the word that a cursor gives after n words
pub nth_of : (words left new : List Word) (n : ℕ) (found : Option Word) → left ≡ drop n words → MatchOption found ((left ≡ []) × (new ≡ [])) (λ word. left ≡ word ∷ new) → found ≡ slice_get words n
nth_of words left new n found at h = grind (arith, common_steps, first_at) steps 200000

-- if no word is left, none is further on
pub nth_past : (words left : List Word) (n m : ℕ) → left ≡ drop n words → left ≡ [] → n < m → None ≡ slice_get words m
nth_past words left n m at none less = let past : length words ≤ m = omega (arith, length-drop n words, ap length (sym at ∙ none)) in sym (slice_get_past words m past)
