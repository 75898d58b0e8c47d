-- The words that are left to a cursor.
use Rattle.std.proofs.Common.{[], ◌≡◌, ℕ, zero, suc, ◌+◌, ◌-◌, ◌<◌, ◌≤◌, List, ◌∷◌, ◌++◌, Some, None, Err, length, get_or, refl, sym, ap, ◌∙◌, append_assoc, arith, length-append, slice_get, Option}
use Rattle.std.{proofs.{Common.{IfNone, IfSome, MatchOption}, lemmas.Grind.{common_steps}}, specs.List.{AllByRecursion, flat_map}}
use Rattle.mm_text.specs.{declared.{word.{Word.{Word}, WordKind.TheVariants.{Plain}}, fault.TextFault.{TextFault}}, Language.{Reading.{AreWords, HasWords, LiesIn, AreWithin}, Unit.{spellings}}}
use Rattle.mm_text.specs.{Language.{Run.{Run, runs}, WordsLeft.{SkipsPlainWords}}, Code.{LeftToRight.{read_runs}, Reader.{runs_at, TakesWord, SkipsPlain}, Cursor.{words_read, words_from, AreLast}}}
use Rattle.mm_text.proofs.{ReadingLemmas.{read_words, read_whole}, SkipLemmas.{plain_words, are_plain_words, read_on}, ReaderLemmas.{slice_length, word_read}, NthLemmas.{first_word}}
use Rattle.mm_text.proofs.PositionLemmas.{Lying, words_lie, are_within}

-- before the first word all are left
pub all_left : (text : List ℕ) (words : List Word) (from : ℕ) → HasWords text words → from ≡ 0 → words_from text from ≡ words
all_left text words from has e = ap words_read (ap (λ n. read_runs None (runs_at text n)) e ∙ read_words (runs text) words has.words_are)

pub at_first : (text : List ℕ) (words : List Word) (from : ℕ) → HasWords text words → from ≡ 0 → AreLast text from
at_first text words from has e = grind (arith, common_steps, all_left text words from has e, read_words (runs text) words has.words_are) steps 200000

-- a word is taken
pub record Took (text : List ℕ) (from : ℕ) (word : Word) (to : ℕ) : Type 0 where
  pub words : words_from text from ≡ word ∷ words_from text to
  pub last : AreLast text to
  pub lies : LiesIn text word

pub one_taken : (text : List ℕ) (from : ℕ) (word : Word) (to : ℕ) → AreLast text from → TakesWord text from word to → Took text from word to
one_taken text from word to at taken =
    let first = first_word (read_runs None (runs_at text from)) (read_runs None (runs_at text to)) word (words_from text from) (word_read text from word to taken) at.no_fault in
    grind (arith, common_steps, append_assoc at.front (word ∷ []) (words_from text to)) steps 200000 where
      at_seam : (front : List Word) (word : Word) (more : List Word) → slice_get (front ++ word ∷ more) (length front) ≡ Some word
      at_seam [] word more = refl
      at_seam (x ∷ front) word more = at_seam front word more

-- plain words are passed over
pub record Passed (text : List ℕ) (from to : ℕ) : Type 0 where
  pub words : SkipsPlainWords (words_from text from) (words_from text to)
  pub last : AreLast text to

are_plain : (runs : List Run) → AllByRecursion (λ (word : Word). word.kind ≡ Plain) (plain_words runs)
are_plain [] = tt
are_plain (run ∷ runs) = (refl, are_plain runs)

pub plain_passed : (text : List ℕ) (from to : ℕ) → AreLast text from → SkipsPlain text from to → Passed text from to
plain_passed text from to at skips =
    let passed = plain_words skips.inside in
    let whole = read_whole skips.inside passed (are_plain_words skips.inside skips.plain) (runs_at text to) in
    let on = read_on passed (read_runs None (runs_at text to)) (words_from text from) (sym (ap (read_runs None) skips.joined ∙ whole) ∙ at.no_fault) in
    grind (arith, common_steps, append_assoc at.front passed (words_from text to), are_plain, on) steps 200000

-- a word is taken, or none is left
pub record Went (text : List ℕ) (from : ℕ) (found : Option Word) (to : ℕ) : Type 0 where
  pub words : MatchOption found ((words_from text from ≡ []) × (words_from text to ≡ [])) (λ word. words_from text from ≡ word ∷ words_from text to)
  pub last : AreLast text to
  pub lies : IfSome found (LiesIn text)

pub went : (text : List ℕ) (from : ℕ) (found : Option Word) (to : ℕ) → AreLast text from → MatchOption found (AreWords (runs_at text from) []) (λ word. TakesWord text from word to) → IfNone found (runs_at text to ≡ []) → Went text from found to
went text from None to at none end = grind (arith, common_steps, read_words _ [] none) steps 200000
went text from (Some word) to at taken end = let took = one_taken text from word to at taken in record { words = took.words; last = took.last; lies = took.lies }

-- a fault is not met
pub no_fault : (text : List ℕ) (from : ℕ) (fault : TextFault) → AreLast text from → read_runs None (runs_at text from) ≡ Err fault → ⊥
no_fault text from fault at e = cc

-- ---- a text has no more words than bytes

-- the n-th word begins after n bytes
begins_behind : (text : List ℕ) (words : List Word) (d : Word) → AreWithin text words → (n : ℕ) → n < length words → n ≤ (get_or words n d).start
begins_behind text words d within zero less = omega arith
begins_behind text words d within (suc n) less =
    grind (arith, common_steps, begins_behind text words d within n (omega arith), within.each n d (omega arith), within.rising n (suc n) d (omega arith) less) steps 200000

pub few_words : (text : List ℕ) (words : List Word) → HasWords text words → length words ≤ length text
few_words text [] has = omega arith
few_words text (word ∷ words) has =
    grind (arith, common_steps, are_within text (word ∷ words) has, begins_behind text (word ∷ words) word (are_within text (word ∷ words) has) (length words) (omega arith)) steps 200000

-- ---- words have a byte each, and together no more bytes than the text

words_some : (text : List ℕ) (at : ℕ) (words : List Word) → Lying text at words → AllByRecursion (λ bytes. 0 < length bytes) (spellings text words)
words_some text at [] h = tt
words_some text at (word ∷ words) h = (omega (arith, slice_length text word.start word.end h.1.within, h.1.some), words_some text (word.end + 1) words h.2)

words_fit : (text : List ℕ) (at : ℕ) (words : List Word) → Lying text at words → length (flat_map (λ bytes. bytes) (spellings text words)) ≤ length text - at
words_fit text at [] h = omega arith
words_fit text at (word ∷ words) h = grind (arith, common_steps, words_fit text (word.end + 1) words h.2, slice_length text word.start word.end h.1.within, length-append) steps 200000

pub some_bytes : (text : List ℕ) (words : List Word) → HasWords text words → AllByRecursion (λ bytes. 0 < length bytes) (spellings text words)
some_bytes text words has = words_some text 0 words (words_lie text words has)

pub few_bytes : (text : List ℕ) (words : List Word) → HasWords text words → length (flat_map (λ bytes. bytes) (spellings text words)) ≤ length text
few_bytes text words has = let fit = words_fit text 0 words (words_lie text words has) in omega (arith, fit)
