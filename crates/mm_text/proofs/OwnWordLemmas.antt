-- A text without what comes before its first word and after its last has the same words.
use Rattle.std.proofs.Common.{[], ◌≡◌, ℕ, zero, suc, ◌+◌, ◌-◌, ◌<◌, ◌≤◌, true, List, ◌∷◌, ◌++◌, append_assoc, length, map, drop, None, Ok, Err, refl, sym, ap, ◌∙◌, subst, inl, inr, arith, slice_range}
use Rattle.std.proofs.{Common.{append-nil, length-append, take-append-drop}, lemmas.Grind.{common_steps}}
use Rattle.mm_text.specs.{declared.word.Word.{Word}, Language.{Run.{runs, ends_run}, Reading.{HasWords}}}
use Rattle.mm_text.specs.Language.Unit.{Token, token_of, tokens_of, spellings, Shape, Declaration, Labelled, Provable, Inclusion, shape_tokens, Nothing, Simple}
use Rattle.mm_text.specs.{Language.{Part.{HasUnits, token_end, shape_part}, Cut.{end_of_words}}, Code.{LeftToRight.{read_runs, words_fault_at}, Reader.{runs_at, TakesWord}}}
use Rattle.mm_text.proofs.{ReadingLemmas.{read_words, same_words}, ReaderLemmas.{pass_none, slice_length, word_read, fails_read}, PieceLemmas.{shift_word}}
use Rattle.mm_text.proofs.{PieceUnitLemmas.{bare, ends_at_last, tokens-shift}, PositionLemmas.{Lying, words_lie}, CutWalkLemmas.{Given, word_from}, NthLemmas.{first_word}}
use Rattle.mm_text.proofs.PartLemmas.{Begun, begun_first, begun_more, begun_words}

bytes_bare : (tokens : List Token) → map (λ token. token.bytes) (map bare tokens) ≡ map (λ token. token.bytes) tokens
bytes_bare [] = refl
bytes_bare (token ∷ tokens) = ap (λ bs. token.bytes ∷ bs) (bytes_bare tokens)

module _ (text : List ℕ) (all : List Word) (has : HasWords text all) (from : ℕ) where
  -- the bytes from this one to the end of the last word have these words
  abbrev pub Alone : Type 0
  Alone = (own : List Word) × HasWords (slice_range text from (end_of_words all)) own × (spellings (slice_range text from (end_of_words all)) own ≡ spellings text all)

  -- the words up to a byte, which is the end of the last of them
  record UpTo (at : ℕ) : Type 0 where
    pub begun : Begun text from at
    pub rest : List Word
    pub reads : read_runs None (runs_at text at) ≡ Ok rest
    pub joined : all ≡ begun.words ++ rest
    pub last : at ≡ end_of_words begun.words
    pub ends : ends_run (drop at text) ≡ true
    pub within : at ≤ length text

  found : (at : ℕ) (h : UpTo at) → h.rest ≡ [] → Alone
  found at h none =
      let own = begun_words text from at has.allowed h.within h.begun h.ends in
      let whole : all ≡ h.begun.words = h.joined ∙ ap (λ rest. h.begun.words ++ rest) none ∙ append-nil h.begun.words in
      let part = slice_range text from at in
      let same : spellings part own.0 ≡ spellings text all =
      sym (bytes_bare (tokens_of part own.0))
      ∙ ap (map (λ token. token.bytes)) (sym (tokens-shift text part (drop (at - from) (drop from text)) from (sym (take-append-drop (at - from) (drop from text))) own.0 0 (words_lie part own.0 own.1)))
      ∙ bytes_bare (tokens_of text (map (shift_word from) own.0))
      ∙ ap (spellings text) (sym (whole ∙ own.3)) in
      subst (λ n. (own : List Word) × HasWords (slice_range text from n) own × (spellings (slice_range text from n) own ≡ spellings text all)) (h.last ∙ ap end_of_words (sym whole)) (own.0, own.1, same)

  next : (at : ℕ) (h : UpTo at) (word : Word) (to : ℕ) → TakesWord text at word to → to ≤ length text → UpTo to
  next at h word to taken within =
      let f = first_word (read_runs None (runs_at text at)) (read_runs None (runs_at text to)) word h.rest (word_read text at word to taken) h.reads in
      record {
        begun = begun_more text from at word to h.begun taken;
        rest = f.0;
        reads = f.2;
        joined = h.joined ∙ ap (λ rest. h.begun.words ++ rest) f.1 ∙ sym (append_assoc h.begun.words (word ∷ []) f.0);
        last = taken.next ∙ sym (ends_at_last h.begun.words word);
        ends = taken.ends;
        within = within;
      }

  walk_step : (at : ℕ) → UpTo at → ((to : ℕ) → at < to → to ≤ length text → UpTo to → Alone) → Alone
  walk_step at h go = by_given (word_from (length text) text at at (omega arith) (omega arith) (pass_none text at)) where
    by_given : Given text at → Alone
    by_given (inl (word, to, taken, within)) = go to (omega (arith, taken.begins, taken.some, taken.next)) within (next at h word to taken within)
    by_given (inr (inl none)) = found at h (let a : Ok h.rest ≡ Ok [] = sym h.reads ∙ read_words (runs_at text at) [] none in cc)
    by_given (inr (inr (number, place, fails))) = absurd (let a : Ok h.rest ≡ Err (words_fault_at number place) = sym h.reads ∙ fails_read (runs_at text at) [] number place fails in cc)

  walk : (fuel : ℕ) (at : ℕ) → length text ≤ at + fuel → UpTo at → Alone
  walk zero at enough h = walk_step at h (λ to more within g. absurd (omega arith))
  walk (suc fuel) at enough h = walk_step at h (λ to more within g. walk fuel to (omega arith) g)

pub alone : (text : List ℕ) (first : Word) (more : List Word) (has : HasWords text (first ∷ more)) → Alone text (first ∷ more) has first.start
alone text first more has = by_given (word_from (length text) text 0 0 (omega arith) (omega arith) (pass_none text 0)) where
  by_given : Given text 0 → Alone text (first ∷ more) has first.start
  by_given (inl (word, to, taken, within)) = let all = first ∷ more in let f = first_word (read_runs None (runs_at text 0)) (read_runs None (runs_at text to))
      word all (word_read text 0 word to taken) (read_words (runs text) all has.words_are) in
      let same : word.start ≡ first.start = (let e : word ≡ first = cc in ap (λ (w : Word). w.start) e) in
      subst (Alone text all has) same (walk text all has word.start (length text) to (omega arith)
      (record { begun = begun_first text 0 word to taken; rest = f.0; reads = f.2; joined = f.1; last = taken.next; ends = taken.ends; within = within }))
  by_given (inr (inl none)) = absurd (let a : Ok (first ∷ more) ≡ Ok [] = sym
      (grind (arith, common_steps, first ∷ more, more, read_words (runs text) (first ∷ more) has.words_are) steps 200000) ∙ read_words (runs_at text 0) [] none
      in cc)
  by_given (inr (inr (number, place, fails))) = absurd (let a : Ok (first ∷ more) ≡ Err (words_fault_at number place) = sym
      (grind (arith, common_steps, first ∷ more, more, read_words (runs text) (first ∷ more) has.words_are) steps 200000) ∙ fails_read (runs_at text 0) []
      number place fails in cc)

pub own_alone : (text : List ℕ) (first : Word) (more own : List Word) → HasWords text (first ∷ more) → HasWords (slice_range text first.start (end_of_words (first ∷ more))) own
    → spellings (slice_range text first.start (end_of_words (first ∷ more))) own ≡ spellings text (first ∷ more)
own_alone text first more own has are =
    grind (arith, alone text first more has, same_words (runs (slice_range text first.start (end_of_words (first ∷ more)))) own (alone text first more has).0 are.words_are (alone text first more has).1.words_are) steps 200000

-- ---- a statement that is alone in its text

pub last_end : (text : List ℕ) (front : List Token) (last : Token) (words : List Word) (at : ℕ) → Lying text at words → front ++ last ∷ [] ≡ tokens_of text words → token_end last ≡ end_of_words words
last_end text front last [] at lie e = absurd (omega (arith, ap length e, length-append front (last ∷ [])))
last_end text [] last (word ∷ []) at lie e = grind (arith, common_steps, slice_length) steps 200000
last_end text [] last (word ∷ next ∷ words) at lie e = absurd (omega (arith, ap length e))
last_end text (token ∷ front) last (word ∷ []) at lie e = absurd (omega (arith, ap length e, length-append front (last ∷ [])))
last_end text (token ∷ front) last (word ∷ next ∷ words) at lie e = grind (arith, common_steps, last_end text front last (next ∷ words) (word.end + 1) lie.2 cc) steps 200000

-- the first word of a statement and its last
record Ends (shape : Shape) : Type 0 where
  pub first : Token
  pub more : List Token
  pub begins : shape_tokens shape ≡ first ∷ more
  pub front : List Token
  pub last : Token
  pub closes : shape_tokens shape ≡ front ++ last ∷ []
  pub start : (shape_part shape).start ≡ first.start
  pub end : (shape_part shape).end ≡ token_end last

ends_of : (shape : Shape) → Ends shape
ends_of (Declaration keyword symbols end) = record { first = keyword; more = symbols ++ end ∷ []; begins = refl; front = keyword ∷ symbols; last = end; closes = refl; start = refl; end = refl }
ends_of (Labelled label keyword symbols end) = record { first = label; more = keyword ∷ (symbols ++ end ∷ []); begins = refl; front = label ∷ keyword ∷ symbols; last = end; closes = refl; start = refl; end = refl }
ends_of (Provable label keyword symbols proof steps end) = record {
  first = label;
  more = keyword ∷ (symbols ++ proof ∷ (steps ++ end ∷ []));
  begins = refl;
  front = label ∷ keyword ∷ (symbols ++ proof ∷ steps);
  last = end;
  closes = ap (λ tokens. label ∷ keyword ∷ tokens) (sym (append_assoc symbols (proof ∷ steps) (end ∷ [])));
  start = refl;
  end = refl;
}
ends_of (Inclusion begin name end) = record { first = begin; more = name ∷ end ∷ []; begins = refl; front = begin ∷ name ∷ []; last = end; closes = refl; start = refl; end = refl }

pub statement_alone : (text : List ℕ) (shape : Shape) (own : List Word) → HasUnits text (Simple shape Nothing) → HasWords (slice_range text (shape_part shape).start (shape_part shape).end) own
    → spellings (slice_range text (shape_part shape).start (shape_part shape).end) own ≡ map (λ token. token.bytes) (shape_tokens shape)
statement_alone text shape own units are = by units.words units.has_words (sym (append-nil (shape_tokens shape)) ∙ units.spells) where
  by : (words : List Word) → HasWords text words → shape_tokens shape ≡ tokens_of text words → spellings (slice_range text (shape_part shape).start (shape_part shape).end) own ≡ map (λ token. token.bytes) (shape_tokens shape)
  by [] has tokens =
      absurd (let none : (ends_of shape).first ∷ (ends_of shape).more ≡ [] = sym (ends_of shape).begins ∙ tokens in omega (arith, ap length none))
  by (word ∷ words) has tokens =
      let all : (ends_of shape).first ∷ (ends_of shape).more ≡ tokens_of text (word ∷ words) = sym (ends_of shape).begins ∙ tokens in
      let first : (ends_of shape).first ≡ token_of text word = cc in
      let start : (shape_part shape).start ≡ word.start = (ends_of shape).start ∙ ap (λ (token : Token). token.start) first in
      let end : (shape_part shape).end ≡ end_of_words (word ∷ words) = (ends_of shape).end ∙ last_end text (ends_of shape).front (ends_of shape).last
      (word ∷ words) 0 (words_lie text (word ∷ words) has) (sym (ends_of shape).closes ∙ tokens) in
      let part : slice_range text (shape_part shape).start (shape_part shape).end ≡ slice_range text word.start (end_of_words (word ∷ words)) =
      ap (λ n. slice_range text n (shape_part shape).end) start ∙ ap (slice_range text word.start) end in
      ap (λ bytes. spellings bytes own) part ∙ own_alone text word words own has (subst (λ bytes. HasWords bytes own) part are) ∙ ap (map (λ token. token.bytes)) (sym tokens)
