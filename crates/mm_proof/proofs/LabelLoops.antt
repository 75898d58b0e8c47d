-- What holds of each label that the words of a proof name, word by word.
use Rattle.std.{proofs.{Common.{arith, ◌≡◌, ℕ, false, List, ◌∷◌, refl, ◌↔◌, IsTrue, one-add}, lemmas.{Grind.{common_steps}, Bool.{false≢true}}}, specs.List.{AllByRecursion, before_first}}
use Rattle.mm_verdict.specs.Language.Decoding.{is_close}

-- what holds of the labels that are listed before a `)`
abbrev pub OfListed : (List ℕ → Type 0) → List (List ℕ) → Type 0
OfListed P words = AllByRecursion P (before_first is_close words)

-- if it held of the first, it holds of them all exactly when it holds of those after the first
pub one_more : (P Q R S : Type 0) → P ↔ (Q × R) → Q → S ↔ P → S ↔ R
one_more P Q R S both q s = (λ t. (both.0 (s.0 t)).1, λ r. s.1 (both.1 (q, r)))

-- it does not hold of them all if it does not hold of the first
pub not_first : (P Q R S : Type 0) → P ↔ (Q × R) → IsTrue false ↔ Q → S ↔ P → IsTrue false ↔ S
not_first P Q R S both q s = (λ t. absurd (false≢true t), λ w. q.1 (both.0 (s.0 w)).0)

before_one : (word : List ℕ) (words : List (List ℕ)) → is_close word ≡ false → before_first is_close (word ∷ words) ≡ word ∷ before_first is_close words
before_one word words e = rw (e, one-add) refl

-- the first of the labels that are listed, and the others
pub one_listed : (P : List ℕ → Type 0) (words new : List (List ℕ)) (word : List ℕ) → words ≡ word ∷ new → is_close word ≡ false → OfListed P words ↔ (P word × OfListed P new)
one_listed P words new word e c = grind (arith, common_steps, before_one word new c) steps 200000
