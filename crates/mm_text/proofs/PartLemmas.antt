-- The parts that are found word by word are those of the units.
use Rattle.std.proofs.Common.{[], ◌≡◌, ◌⊎◌, ℕ, ◌-◌, ◌+◌, ◌<◌, ◌≤◌, Bool, true, false, List, ◌∷◌, ◌++◌, append_assoc, length, map, drop, Option, Some, None, Ok, Err, All, refl, sym, ap, ◌∙◌, subst}
use Rattle.std.proofs.{Common.{inl, inr, arith, slice_range, unwrap_or}, lemmas.{Grind.{common_steps}, List.{append-nil, take-append-drop, append_cancel_right, drop-drop, length-append, length-map}}}
use Rattle.std.{proofs.{lemmas.List.Elements.{All-nil, All-cons, All-append}, Math.Bool.{or-true}}, specs.List.{AllByRecursion}}
use Rattle.mm_text.specs.declared.{part.{Part.{Part}, PartKind.{PartKind}}, word.{Word.{Word}, WordKind.{WordKind}}}
use Rattle.mm_text.specs.declared.{word.Keyword.TheVariants.{Constants, Variables, Disjoint, Floating, Essential, Axiom, StatementEnd}, fault.TextNumber.{TextNumber}}
use Rattle.mm_text.specs.Language.{Run.{Run, runs, runs_from, ends_run}, Reading.{first_bad, AreWords, HasWords}}
use Rattle.mm_text.specs.Language.Unit.{Token, token_of, tokens_of, IsKeyword, IsPlain, Shape, Declaration, Labelled, Provable, Inclusion, shape_tokens, IsShape, Units, Nothing, Simple, Block}
use Rattle.mm_text.specs.Language.{Unit.{unit_tokens, AreUnits}, Cut.{ArePieces}, Part.{HasUnits, token_end, word_part, shape_part, parts_of, IsReadable}}
use Rattle.mm_text.specs.Code.{LeftToRight.{Read, read_runs, words_fault_at}, Reader.{runs_at, run_between, TakesWord, FailsBehind}, PartReading.{ends_part, emit_word, emit}}
use Rattle.mm_text.proofs.{ReadingLemmas.{none_read, word_step, read_words}, ReaderLemmas.{words-append, slice_length, word_read, fails_read}}
use Rattle.mm_text.proofs.{PieceLemmas.{runs-append, shift_run, shift_word, runs-shift, words_unshift}, PieceUnitLemmas.{allowed_part}, NthLemmas.{first_word}}
use Rattle.mm_text.specs.declared.part.PartKind.TheVariants as parts
use Rattle.mm_text.specs.declared.word.WordKind.TheVariants as kinds

-- ---- units

abbrev pub made_part : PartKind → ℕ → ℕ → Part
made_part kind start end = record { kind = kind; start = start; end = end }

emit_by : (first : Option ℕ) (kind : PartKind) (word : WordKind) (token : Token) (tokens : List Token) → token.kind ≡ word → emit first kind (token ∷ tokens) ≡ emit_word first kind word token (λ f k. emit f k tokens)
emit_by first kind word token tokens is = ap (λ (w : WordKind). emit_word first kind w token (λ f k. emit f k tokens)) is

pub emit_symbols : (start : ℕ) (kind : PartKind) (symbols tail : List Token) → AllByRecursion IsPlain symbols → emit (Some start) kind (symbols ++ tail) ≡ emit (Some start) kind tail
emit_symbols start kind [] tail h = refl
emit_symbols start kind (token ∷ symbols) tail h = emit_by (Some start) kind kinds.Plain token (symbols ++ tail) h.0 ∙ emit_symbols start kind symbols tail h.1

emit_rest : (start : ℕ) (kind : PartKind) (symbols : List Token) (end : Token) (tail : List Token) → AllByRecursion IsPlain symbols → IsKeyword StatementEnd end
    → emit (Some start) kind ((symbols ++ end ∷ []) ++ tail) ≡ made_part kind start (token_end end) ∷ emit None kind tail
emit_rest start kind symbols end tail plain is = ap (emit (Some start) kind) (append_assoc symbols (end ∷ []) tail) ∙ emit_symbols start kind symbols (end ∷ tail) plain ∙ emit_by (Some start) kind (kinds.Keyword StatementEnd) end tail is

-- what follows a part is found with the part's kind
abbrev Emits : PartKind → List Token → List Part → List Token → Type 0
Emits kind tokens found tail = (next : PartKind) × (emit None kind (tokens ++ tail) ≡ found ++ emit None next tail)

emit_shape : (outside : Bool) (shape : Shape) (kind : PartKind) (tail : List Token) → IsShape outside shape → Emits kind (shape_tokens shape) (shape_part shape ∷ []) tail
emit_shape outside (Declaration keyword symbols end) kind tail (is, plain, ends) = by_keyword is where
  by_keyword : (IsKeyword Constants keyword ⊎ (IsKeyword Variables keyword ⊎ IsKeyword Disjoint keyword)) → Emits kind (keyword ∷ (symbols ++ end ∷ [])) (shape_part (Declaration keyword symbols end) ∷ []) tail
  by_keyword (inl is) = grind (arith, common_steps, emit_rest keyword.start parts.Constants symbols end tail plain ends) steps 200000
  by_keyword (inr (inl is)) = grind (arith, common_steps, emit_rest keyword.start parts.Variables symbols end tail plain ends) steps 200000
  by_keyword (inr (inr is)) = grind (arith, common_steps, emit_rest keyword.start parts.Disjoint symbols end tail plain ends) steps 200000
emit_shape outside (Labelled label keyword symbols end) kind tail (labels, is, plain, ends) = by_keyword is where
  told : (word : WordKind) (next : PartKind) → keyword.kind ≡ word → word_part parts.Axiom word ≡ next → made_part next label.start (token_end end) ≡ shape_part (Labelled label keyword symbols end)
  told word next same e = ap (λ (k : PartKind). made_part k label.start (token_end end)) (sym e ∙ ap (word_part parts.Axiom) (sym same))

  by_keyword : (IsKeyword Floating keyword ⊎ (IsKeyword Essential keyword ⊎ IsKeyword Axiom keyword)) → Emits kind (label ∷ keyword ∷ (symbols ++ end ∷ [])) (shape_part (Labelled label keyword symbols end) ∷ []) tail
  by_keyword p0 = grind
      (arith, common_steps, emit_by, emit_rest, (emit_by None kind kinds.Plain label (keyword ∷ ((symbols ++ end ∷ []) ++ tail)) labels.0), told) steps 200000
emit_shape outside (Provable label keyword symbols proof steps end) kind tail (labels, theorem, plain, proves, more, ends) = (
  parts.Theorem,
  grind (arith, common_steps, append_assoc, emit_by, emit_rest, emit_symbols) steps 200000,
)
emit_shape outside (Inclusion begin name end) kind tail h = (
  parts.Inclusion,
  grind (arith, common_steps, emit_by) steps 200000,
)

pub emit_units : (outside : Bool) (units : Units) (kind : PartKind) (tail : List Token) → AreUnits outside units → Emits kind (unit_tokens units) (parts_of units) tail
emit_units outside Nothing kind tail h = (kind, refl)
emit_units outside (Simple shape later) kind tail h =
    grind (arith, common_steps, emit_shape outside shape kind (unit_tokens later ++ tail) h.0, emit_units outside later (emit_shape outside shape kind (unit_tokens later ++ tail) h.0).0 tail h.1) steps 200000
emit_units outside (Block begin inner end later) kind tail h =
    grind (arith, common_steps, emit_units false inner parts.BlockStart (end ∷ (unit_tokens later ++ tail)) h.1, emit_units outside later parts.BlockEnd tail h.3, emit_by) steps 200000

-- ---- the parts so far

abbrev Left : List ℕ → List Part → Option ℕ → PartKind → Read → Type 0
Left text found first kind r = (units : Units) → HasUnits text units → (rest : List Word) × (r ≡ Ok rest) × (found ++ emit first kind (tokens_of text rest) ≡ parts_of units)

-- the words of a part that has begun, up to the byte `at`
pub record Begun (text : List ℕ) (start at : ℕ) : Type 0 where
  pub before : start ≤ at
  pub since : List Run
  pub words : List Word
  pub joined : runs_at text start ≡ since ++ runs_at text at
  pub reads : AreWords since words
  pub some : 0 < length words

abbrev pub begun_more : (text : List ℕ) (start at : ℕ) (word : Word) (to : ℕ) → Begun text start at → TakesWord text at word to → Begun text start to
begun_more text start at word to h taken = grind (arith, common_steps, words-append h.since taken.taken h.words (word ∷ []) h.reads taken.reads, length-append h.words (word ∷ [])) steps 200000

abbrev pub begun_first : (text : List ℕ) (at : ℕ) (word : Word) (to : ℕ) → TakesWord text at word to → Begun text word.start to
begun_first text at word to taken = grind (arith, common_steps, word_step [] [] (run_between text word.start word.end) word none_read taken.is_word) steps 200000

-- a part that ends where a run ends is a text with words
pub begun_words : (text : List ℕ) (start to : ℕ) → first_bad text ≡ None → to ≤ length text → (h : Begun text start to) → ends_run (drop to text) ≡ true
    → (words : List Word) × HasWords (slice_range text start to) words × (0 < length words) × (h.words ≡ map (shift_word start) words)
begun_words text start to allowed most h ends = (words.0, record { allowed = allowed_part text start to allowed; words_are = words.1 }, omega (arith, h.some, ap length words.2, length-map words.0 (shift_word start)), words.2) where
  words : (ws : List Word) × AreWords (runs (slice_range text start to)) ws × (h.words ≡ map (shift_word start) ws)
  words =
      let joined : drop start text ≡ slice_range text start to ++ drop to text =
      grind (arith, common_steps, take-append-drop (to - start) (drop start text), drop-drop (to - start) start text) steps 200000 in
      let own_runs : runs_from start (slice_range text start to) ≡ h.since = let long : length (slice_range text start to) ≡ to - start =
      slice_length text start to most in let end : start + length (slice_range text start to) ≡ to = omega (arith, h.before) in
      grind (arith, common_steps, append_cancel_right, joined, or-true, runs-append) steps 200000 in
      let place : start ≡ start + 0 = omega arith in
      grind (arith, common_steps, own_runs, runs-shift, shift_run, words_unshift) steps 200000

pub record Divides (text : List ℕ) (found : List Part) (first : Option ℕ) (kind : PartKind) (at : ℕ) : Type 0 where
  pub allowed : first_bad text ≡ None
  pub rest : Left text found first kind (read_runs None (runs_at text at))
  pub readable : All (IsReadable text) found
  pub begun : (start : ℕ) → first ≡ Some start → Begun text start at

pub divides_start : (text : List ℕ) (kind : PartKind) → first_bad text ≡ None → Divides text [] None kind 0
divides_start text kind allowed = record {
  allowed = allowed;
  rest = λ units h. (
    h.words,
    read_words (runs text) h.words h.has_words.words_are,
    ap (emit None kind) (sym h.spells) ∙ (grind (arith, common_steps, emit_units true units kind [] h.are_units) steps 200000),
  );
  readable = All-nil (IsReadable text);
  begun = λ start e. absurd cc;
}

module _ (text : List ℕ) (found : List Part) (first : Option ℕ) (kind : PartKind) (at : ℕ) (h : Divides text found first kind at) where
  pub divides_end : AreWords (runs_at text at) [] → (units : Units) → HasUnits text units → found ≡ parts_of units
  divides_end none units has =
      let left = h.rest units has in
      let empty : left.0 ≡ [] = let b : read_runs None (runs_at text at) ≡ Ok [] = read_words (runs_at text at) [] none in cc in
      sym (append-nil found) ∙ ap (λ (ws : List Word). found ++ emit first kind (tokens_of text ws)) (sym empty) ∙ left.2

  pub divides_fault : (number : TextNumber) (place : ℕ) → FailsBehind (runs_at text at) [] number place → (units : Units) → ¬ HasUnits text units
  divides_fault number place fails units has =
      let left = h.rest units has in let b : read_runs None (runs_at text at) ≡ Err (words_fault_at number place) = fails_read (runs_at text at) [] number place fails in cc

  module _ (word : Word) (to : ℕ) (taken : TakesWord text at word to) (most : to ≤ length text) where
    abbrev start : ℕ
    start = unwrap_or first word.start

    -- the rest, whose first word is this
    after_word : (units : Units) → HasUnits text units → (more : List Word) × (read_runs None (runs_at text to) ≡ Ok more) × (found ++ emit_word first kind word.kind (token_of text word) (λ f k. emit f k (tokens_of text more)) ≡ parts_of units)
    after_word units has =
        let left = h.rest units has in
        let next = first_word (read_runs None (runs_at text at)) (read_runs None (runs_at text to)) word left.0 (word_read text at word to taken) left.1 in
        (next.0, next.2, ap (λ (ws : List Word). found ++ emit first kind (tokens_of text ws)) (sym next.1) ∙ left.2)

    end_is : token_end (token_of text word) ≡ word.end
    end_is = omega (arith, taken.some)

    begins : (o : Option ℕ) → first ≡ o → Begun text (unwrap_or o word.start) to
    begins None e = begun_first text at word to taken
    begins (Some s) e = begun_more text s at word to (h.begun s e) taken

    made_readable : IsReadable text (made_part (word_part kind word.kind) start word.end)
    made_readable =
        let begun : Begun text start to = begins first refl in
        let words = begun_words text start to h.allowed most begun taken.ends in
        record { some = starts first refl; within = omega (arith, most, taken.next); words = words.0; has_words = subst (λ n. HasWords (slice_range text start n) words.0) taken.next words.1; some_word = words.2 } where
          starts : (o : Option ℕ) → first ≡ o → unwrap_or o word.start < word.end
          starts None e = taken.some
          starts (Some s) e = let b = h.begun s e in omega (arith, b.before, taken.begins, taken.some)

    pub divides_part : ends_part word.kind ≡ true → Divides text (found ++ made_part (word_part kind word.kind) start word.end ∷ []) None (word_part kind word.kind) to
    divides_part ends = record {
      allowed = h.allowed;
      rest = λ units has. (let next = after_word units has in (
        next.0,
        next.1,
        grind (arith, common_steps, append_assoc) steps 200000,
      ));
      readable = All-append (IsReadable text) found (made_part (word_part kind word.kind) start word.end ∷ []) h.readable (All-cons (IsReadable text) (made_part (word_part kind word.kind) start word.end) [] made_readable (All-nil (IsReadable text)));
      begun = λ s e. absurd cc;
    }

    pub divides_more : ends_part word.kind ≡ false → Divides text found (Some start) (word_part kind word.kind) to
    divides_more on = record {
      allowed = h.allowed;
      rest = λ units has. (let next = after_word units has in (
        next.0,
        next.1,
        grind (arith, common_steps) steps 200000,
      ));
      readable = h.readable;
      begun = λ s e. (let same : start ≡ s = cc in subst (λ n. Begun text n to) same (begins first refl));
    }

-- ---- pieces

pub each_units : {X : Type 0} (bytes : X → List ℕ) (pieces : List X) (tail : List ℕ) → ArePieces (map bytes pieces) tail → All (λ piece. (units : Units) × HasUnits (bytes piece) units) pieces
each_units bytes [] tail h = All-nil (λ piece. (units : Units) × HasUnits (bytes piece) units)
each_units bytes (piece ∷ pieces) tail h = All-cons (λ piece. (units : Units) × HasUnits (bytes piece) units) piece pieces
    (grind (arith, common_steps) steps 200000) (each_units bytes pieces tail h.2)
