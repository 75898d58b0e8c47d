-- Runs without a `$`, passed over at once.
use Rattle.std.proofs.lemmas.{Grind.{common_steps}, Bool.{cases_Bool, false_from_ne_true, or_parts}}
use Rattle.std.proofs.Common.{◌≡◌, ℕ, zero, suc, get_or, ◌+◌, ◌≤◌, ◌<◌, true, false, not, eqb, Ok, List, [], ◌∷◌, ◌++◌, length, take, drop, map, refl, ap, arith, drop-drop, length-take-le}
use Rattle.std.{proofs.Common.{take-append-drop}, specs.List.{AllByRecursion}}
use Rattle.mm_text.specs.{declared.word.Word.{Word}, Language.{Run.{Run, with_first_byte, runs_from}, Reading.{AreWords}, Unit.{tokens_of, IsPlain}}}
use Rattle.mm_text.{specs.Code.{LeftToRight.{Read, with_words, has_dollar, word_at}, Reader.{ArePlain, SkipsPlain, HoldNoMarks}}, proofs.KindLemmas.{kind_spelled, plain_word, no_mark}}
use Rattle.mm_text.proofs.{PieceLemmas.{Seam, runs-append}, ReaderLemmas.{Skipping, words-append}, ReadingLemmas.{all_append, none_read, word_step}}
use Rattle.mm_text.specs.declared.word.WordKind.TheVariants as kinds

-- ---- bytes without a `$`

pub none_before : (r : ℕ) (bytes : List ℕ) → r ≤ length bytes → ((k : ℕ) → k < r → ¬ (eqb (get_or bytes k 0) 36 ≡ true)) → has_dollar (take r bytes) ≡ false
none_before zero bytes le h = refl
none_before (suc r) [] le h = absurd (omega arith)
none_before (suc r) (b ∷ bytes) le h = rw (false_from_ne_true (eqb b 36) (h 0 (omega arith))) (none_before r bytes (omega arith) (λ k lt. h (suc k) (omega arith)))

-- ---- runs of bytes without a `$`

front_plain : (at b : ℕ) (runs : List Run) → eqb b 36 ≡ false → ArePlain runs → ArePlain (with_first_byte at b runs)
front_plain at b runs other h = grind (arith, common_steps) steps 200000

runs_plain : (at : ℕ) (bytes : List ℕ) → has_dollar bytes ≡ false → ArePlain (runs_from at bytes)
runs_plain at [] none = tt
runs_plain at (b ∷ bytes) none = grind (arith, common_steps, runs_plain (at + 1) bytes (or_parts (eqb b 36) (has_dollar bytes) none).1, cases_Bool, front_plain, or_parts) steps 200000

-- bytes without a `$` that end where no run goes on
pub skips_plain : (text : List ℕ) (from k : ℕ) (bytes : List ℕ) → bytes ≡ drop from text → k ≤ length bytes → has_dollar (take k bytes) ≡ false → Seam (take k bytes) (drop k bytes) → SkipsPlain text from (from + k)
skips_plain text from k bytes is most none seam =
    grind (arith, common_steps, take-append-drop k bytes, runs-append (take k bytes) (drop k bytes) from seam, length-take-le k bytes most, drop-drop k from text, runs_plain from (take k bytes) none) steps 200000

-- ---- in a comment

unmarked : (runs : List Run) → ArePlain runs → HoldNoMarks runs
unmarked [] h = tt
unmarked (run ∷ runs) h = (no_mark run.bytes (ap not h.0), unmarked runs h.1)

pub skip_all : (text : List ℕ) (from at to : ℕ) → Skipping text from at → SkipsPlain text at to → Skipping text from to
skip_all text from at to h s = grind (arith, common_steps, all_append _ h.inside s.inside h.no_marks (unmarked s.inside s.plain)) steps 200000

-- ---- outside comments

abbrev pub plain_words : List Run → List Word
plain_words runs = map (λ run. word_at run kinds.Plain) runs

pub are_plain_words : (runs : List Run) → ArePlain runs → AreWords runs (plain_words runs)
are_plain_words [] h = none_read
are_plain_words (run ∷ runs) h =
    words-append (run ∷ []) runs (word_at run kinds.Plain ∷ []) (plain_words runs)
    (word_step [] [] run (word_at run kinds.Plain) none_read (record { kind = kind_spelled run.bytes kinds.Plain (plain_word run.bytes (ap not h.0)); start = refl; end = refl }))
    (are_plain_words runs h.1)

pub plain_tokens : (text : List ℕ) (runs : List Run) → AllByRecursion IsPlain (tokens_of text (plain_words runs))
plain_tokens text [] = tt
plain_tokens text (run ∷ runs) = (refl, plain_tokens text runs)

-- what is read with words in front is read after them, too
pub read_on : (words : List Word) (r : Read) (all : List Word) → with_words words r ≡ Ok all → (more : List Word) × (r ≡ Ok more) × (all ≡ words ++ more)
read_on words r all e = grind (arith, common_steps) steps 200000
