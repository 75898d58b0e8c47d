-- Bytes that occur in others, and words that are spelled by bytes of a text.
use Rattle.std.proofs.Common.{rules, ◌≡◌, ℕ, ◌+◌, ◌-◌, ◌<◌, Option, Some, None, List, [], ◌∷◌, length, map, take, drop, refl, sym, ◌∙◌, ap, arith, slice_range, length-take, length-drop, get_or}
use Rattle.std.{proofs.{Common.{get_or-take, get_or-drop}, lemmas.Bool.{false≢true}}, specs.{Prelude.{◌≢◌, ◌↔◌, IsTrue, is_some}, List.{AllByRecursion}}}
use Rattle.memchr.{specs.Find.{OccursAt, FindsNeedle}, proofs.lemmas.MatchLemmas.{OccursAt-part}}
use Rattle.mm_store.specs.mm_text.{declared.word.Word.{Word}, Language.Unit.{tokens_of}}
use Rattle.mm_statement.{specs.{Language.{Item.{Kind}, Statement.{item_of}}, Code.{Occurring.{OccurIn}, PlainWords.{word_bytes}}}, proofs.SpokenLemmas.{names_from}}

-- where a search finds bytes, they occur
found_stand : (text bytes : List ℕ) (k : ℕ) → OccursAt text bytes k → slice_range text k (k + length bytes) ≡ bytes
found_stand text bytes k h = let count : k + length bytes - k ≡ length bytes = omega arith in ap (λ n. take n (drop k text)) count ∙ OccursAt-part text bytes k h

-- where they occur, a search can find them
stand_found : (text bytes : List ℕ) (from to : ℕ) → slice_range text from to ≡ bytes → (k : ℕ) × OccursAt text bytes k
stand_found text [] from to e = (0, record { fits = omega arith; reads = λ j l. absurd (omega (arith, l)) })
stand_found text (x ∷ xs) from to e =
    let count : length (slice_range text from to) ≡ length (x ∷ xs) = ap length e in
    let taken = length-take (to - from) (drop from text) in
    let left = length-drop from text in (
      from,
      record {
        fits = omega (arith, count, taken, left);
        reads = λ j l. sym (get_or-take (to - from) (drop from text) j 0 (omega (arith, count, taken, l)) ∙ get_or-drop from text j 0) ∙ ap (λ bs. get_or bs j 0) e;
      },
    )

-- they do not occur where there are fewer
pub too_few : (text bytes : List ℕ) → length text < length bytes → OccurIn text bytes → ⊥
too_few text bytes few occur = let fits = (stand_found text bytes occur.0 occur.1 occur.2).1.fits in omega (arith, fits)

-- a search says whether they do
pub search_tells : (text bytes : List ℕ) (r : Option ℕ) → FindsNeedle text bytes 0 r → IsTrue (is_some r) ↔ OccurIn text bytes
search_tells text bytes (Some k) h = (λ t. (k, k + length bytes, found_stand text bytes k h.1), λ s. refl)
search_tells text bytes None h = (
  λ t. absurd (false≢true t),
  λ s. let found = stand_found text bytes s.0 s.1 s.2 in let fits = found.1.fits in absurd (h found.0 (omega arith) (omega (arith, fits)) found.1),
)

-- bytes that occur nowhere in a text spell none of its words
no_word : (text bytes : List ℕ) (words : List Word) → (OccurIn text bytes → ⊥) → AllByRecursion (λ word. word ≢ bytes) (map (word_bytes text) words)
no_word text bytes [] none = tt
no_word text bytes (word ∷ words) none = (λ e. none (word.start, word.end, e), no_word text bytes words none)

pub no_proof_word :
    (text bytes : List ℕ) (kind : Kind) (words : List Word) → (OccurIn text bytes → ⊥) →
    AllByRecursion (λ word. word ≢ bytes) (item_of kind (tokens_of text words)).proof
no_proof_word text bytes kind words none = search (rules, names_from, no_word)
