-- The words of a proof, taken one by one.
use Rattle.std.proofs.{lemmas.{Grind.{common_steps}, List.{drop_more}}, Common.{◌≡◌, ℕ, ◌+◌, ◌<◌, List, [], ◌∷◌, Option, true, get_or, length, drop, sym, ◌∙◌, ap, arith, MatchOption}}
use Rattle.mm_verdict.{specs.{Language.{Decoding.{is_compressed}, Letters.{letters_from}}, Code.{Left.{AreLeft}, LeftToRight.{read_on}}}, proofs.lemmas.decoding.JoinLemmas.{letters_are}}
use Rattle.mm_verdict.proofs.lemmas.decoding.ReaderLemmas.{aim_of}
use Rattle.mm_machine.specs.Language.Expansion.{Step}

-- one more word is taken
pub record Taken (all new : List (List ℕ)) (n : ℕ) (word : List ℕ) : Type 0 where
  pub within : n < length all
  pub is : word ≡ get_or all n []
  pub left : AreLeft all new (n + 1)

pub take_one : (all left new : List (List ℕ)) (n : ℕ) (word : List ℕ) → AreLeft all left n → left ≡ word ∷ new → Taken all new n word
take_one all left new n word h e = grind (arith, common_steps, drop_more all n [] (omega (arith, h.count, ap length e))) steps 200000

-- no word is left
pub none_left : (all left : List (List ℕ)) (n : ℕ) → AreLeft all left n → left ≡ [] → n ≡ length all
none_left all left n h e = omega (arith, h.count, ap length e)

-- a word that is a `(` goes before the list of labels
pub behind_open : {X : Type 0} (spelled : X → List ℕ) (all read new : List (List ℕ)) (found : Option X) → is_compressed all ≡ true → read ≡ all → MatchOption found ((read ≡ []) × (new ≡ [])) (λ word. read ≡ spelled word ∷ new) → AreLeft all new 1
behind_open spelled all read new found compressed same h = grind (arith, common_steps) steps 200000

-- ---- letters

-- what the letters of all these words are to give
pub total_is : (names : List Step) (all words : List (List ℕ)) (from : ℕ) → AreLeft all words from → (aim_of names all from).total ≡ read_on names (aim_of names all from).close 0 0 (letters_from from words)
total_is names all words from h = sym (ap (λ (ws : List (List ℕ)). read_on names (aim_of names all from).close 0 0 (letters_from from ws)) h.are ∙ letters_are names (aim_of names all from).close (letters_from from (drop from all)))
