-- What the loop of `divided_cut` keeps of the parts of the piece that it reads.
use Rattle.std.proofs.Common.{[], ◌≡◌, ℕ, ◌+◌, ◌-◌, ◌≤◌, Bool, true, false, List, ◌∷◌, ◌++◌, append_assoc, map, length, take, drop, Option, None, Some, Ok, refl, sym, ap, ◌∙◌, subst, arith}
use Rattle.std.{proofs.lemmas.{Grind.{common_steps}, List.{append-nil, map-append, take_rest}}, specs.{Prelude.{slice_range, unwrap_or, if◌then◌else◌}, List.{AllByRecursion, prefix_len}}}
use Rattle.mm_text.specs.Language.{Unit.{unit_tokens, Token, token_of, tokens_of, IsPlain}, Part.{parts_of, HasParts, token_end, word_part}, Run.{Run, is_white}, Reading.{AreWords, LiesIn, first_bad}}
use Rattle.mm_text.specs.{Language.Cut.{ended}, declared.{division.PartReading.{PartReading}, part.{Part.{Part}, PartKind.{PartKind}}, word.{Word.{Word}, WordKind.{WordKind}}}}
use Rattle.mm_text.specs.Code.{Grammar.{phase_of, is_within}, PartReading.{ends_part, emit, parts_behind, open_behind, TakesPartWord}, Reader.{runs_at, TakesWord, SkipsPlain}}
use Rattle.mm_text.proofs.{PartLemmas.{emit_units, made_part, emit_symbols}, PieceUnitLemmas.{unshift, piece_spells, runs_behind}, ReaderLemmas.{words-append, slice_length}, ReadingLemmas.{none_read}}
use Rattle.mm_text.proofs.SkipLemmas.{plain_words, are_plain_words, plain_tokens}
use Rattle.mm_text.specs.Code.UnitReading as m

-- ---- words inside a statement

-- no word with which a part ends goes before symbols
pub no_end : (phase : m.Phase) (depth : ℕ) (kind : WordKind) (could : Bool) (next : m.Phase) → phase_of (m.next phase depth kind could) ≡ Ok next → is_within next ≡ true → ends_part kind ≡ false
no_end phase depth kind could next e within = grind (arith, common_steps) steps 200000

-- ---- the piece so far

plain_unshift : (from : ℕ) (tokens : List Token) → AllByRecursion IsPlain tokens → AllByRecursion IsPlain (map (unshift from) tokens)
plain_unshift from [] h = tt
plain_unshift from (token ∷ tokens) h = (h.0, plain_unshift from tokens h.1)

-- the words of the piece up to the byte `at` make these parts, whatever comes after them
pub record Divided (text : List ℕ) (from at : ℕ) (found : List Part) (first : Option ℕ) (kind : PartKind) : Type 0 where
  pub since : List Run
  pub words : List Word
  pub begin : PartKind
  pub joined : runs_at text from ≡ since ++ runs_at text at
  pub reads : AreWords since words
  pub emits : (later : List Token) → emit None begin (map (unshift from) (tokens_of text words) ++ later) ≡ found ++ emit first kind later

pub divided_none : (text : List ℕ) (from at : ℕ) (kind : PartKind) → runs_at text from ≡ runs_at text at → Divided text from at [] None kind
divided_none text from at kind same = record { since = []; words = []; begin = kind; joined = same; reads = none_read; emits = λ later. refl }

module _ (text : List ℕ) (from at : ℕ) (found : List Part) (first : Option ℕ) (kind : PartKind) (h : Divided text from at found first kind) where
  emits_more : (words : List Word) (later : List Token) → emit None h.begin (map (unshift from) (tokens_of text (h.words ++ words)) ++ later) ≡ found ++ emit first kind (map (unshift from) (tokens_of text words) ++ later)
  emits_more words later = grind (arith, common_steps, append_assoc, map-append, unshift) steps 200000

  -- plain words inside a part
  pub divided_skip : (start to : ℕ) → first ≡ Some start → SkipsPlain text at to → Divided text from to found first kind
  divided_skip start to is s = record {
    since = h.since ++ s.inside;
    words = h.words ++ plain_words s.inside;
    begin = h.begin;
    joined = h.joined ∙ ap (λ (rs : List Run). h.since ++ rs) s.joined ∙ sym (append_assoc h.since s.inside (runs_at text to));
    reads = words-append h.since s.inside h.words (plain_words s.inside) h.reads (are_plain_words s.inside s.plain);
    emits = λ later. grind (arith, common_steps, emit_symbols, emits_more, plain_tokens, plain_unshift, plain_words, unshift) steps 200000;
  }

  -- one more word
  module _ (word : Word) (to : ℕ) (taken : TakesWord text at word to) (place : (from ≤ word.start) × LiesIn text word) where
    abbrev start : ℕ
    start = unwrap_or first (word.start - from)

    abbrev made : Part
    made = made_part (word_part kind word.kind) start (word.end - from)

    end_is : token_end (unshift from (token_of text word)) ≡ word.end - from
    end_is = let long : length (slice_range text word.start word.end) ≡ word.end - word.start = slice_length text word.start word.end place.1.within in omega (arith, place.0, place.1.some)

    emits_word : (later : List Token) (ends : Bool)
        → found ++ (if ends then made_part (word_part kind word.kind) start (token_end (unshift from (token_of text word))) ∷ emit None (word_part kind word.kind) later else emit (Some start) (word_part kind word.kind) later)
        ≡ parts_behind ends found made ++ emit (open_behind ends start) (word_part kind word.kind) later
    emits_word later true = ap (λ (n : ℕ). found ++ made_part (word_part kind word.kind) start n ∷ emit None (word_part kind word.kind) later) end_is ∙ sym (append_assoc found (made ∷ []) (emit None (word_part kind word.kind) later))
    emits_word later false = refl

    abbrev since : List Run
    since = h.since ++ taken.taken

    joined : runs_at text from ≡ since ++ runs_at text to
    joined = h.joined ∙ ap (λ (rs : List Run). h.since ++ rs) taken.joined ∙ sym (append_assoc h.since taken.taken (runs_at text to))

    reads : AreWords since (h.words ++ word ∷ [])
    reads = words-append h.since taken.taken h.words (word ∷ []) h.reads taken.reads

    emits_next : (later : List Token) → emit None h.begin (map (unshift from) (tokens_of text (h.words ++ word ∷ [])) ++ later)
        ≡ parts_behind (ends_part word.kind) found made ++ emit (open_behind (ends_part word.kind) start) (word_part kind word.kind) later
    emits_next later = emits_more (word ∷ []) later ∙ emits_word later (ends_part word.kind)

    pub divided_word : Divided text from to (parts_behind (ends_part word.kind) found made) (open_behind (ends_part word.kind) start) (word_part kind word.kind)
    divided_word = record { since = since; words = h.words ++ word ∷ []; begin = h.begin; joined = joined; reads = reads; emits = emits_next }

    -- the word that is the last of a piece
    module _ (allowed : first_bad text ≡ None) (most : to ≤ length text) where
      abbrev white : ℕ
      white = prefix_len is_white (drop to text)

      le : from ≤ to
      le = omega (arith, place.0, taken.some, taken.next)

      pub divided_end : HasParts (ended (slice_range text from (to + white))) (parts_behind (ends_part word.kind) found made)
      divided_end units has =
          let spelled = piece_spells text from to since h.words word allowed le most joined reads (sym taken.next) taken.ends units has in
          sym (append-nil (parts_behind (ends_part word.kind) found made)) ∙ sym (emits_next []) ∙ ap (emit None h.begin) (append-nil (map (unshift from) (tokens_of text (h.words ++ word ∷ []))) ∙ sym spelled)
          ∙ (grind
          (arith, common_steps, append-nil (unit_tokens units), append-nil (parts_of units), emit_units true units h.begin [] has.are_units) steps 200000)

      pub divided_next : (kind : PartKind) → Divided text (to + white) to [] None kind
      divided_next kind = divided_none text (to + white) to kind (sym (runs_behind text from to since h.words word allowed le most joined reads (sym taken.next) taken.ends))

-- ---- what is kept with the reading of parts

abbrev pub Keeps : List ℕ → ℕ → ℕ → PartReading → Type 0
Keeps text from at parts = Divided text from at parts.parts.items parts.first parts.kind

module _ (text : List ℕ) (from at : ℕ) (old : PartReading) (h : Keeps text from at old) (word : Word) (to : ℕ) (taken : TakesWord text at word to) (place : (from ≤ word.start) × LiesIn text word)
    (new : PartReading) (takes : TakesPartWord old from word new) where
  pub parts_more : Keeps text from to new
  parts_more = rw (takes.parts, takes.first, takes.kind) (divided_word text from at old.parts.items old.first old.kind h word to taken place)

  pub parts_skip : (past : ℕ) → ends_part word.kind ≡ false → SkipsPlain text to past → Keeps text from past new
  parts_skip past on s =
      divided_skip text from to new.parts.items new.first new.kind parts_more (unwrap_or old.first (word.start - from)) past
      (takes.first ∙ ap (λ (b : Bool). open_behind b (unwrap_or old.first (word.start - from))) on) s

  module _ (allowed : first_bad text ≡ None) (most : to ≤ length text) (white : ℕ) (is : white ≡ prefix_len is_white (take (length text - word.end) (drop word.end text))) where
    same_end : to + prefix_len is_white (drop to text) ≡ word.end + white
    same_end = let here : white ≡ prefix_len is_white (drop to text) = is ∙ ap (prefix_len is_white) (take_rest text word.end) ∙ ap (λ (n : ℕ). prefix_len is_white (drop n text)) (sym taken.next) in omega (arith, here, taken.next)

    pub parts_end : HasParts (ended (slice_range text from (word.end + white))) new.parts.items
    parts_end = subst (λ (n : ℕ). HasParts (ended (slice_range text from n)) new.parts.items) same_end (rw takes.parts
        (divided_end text from at old.parts.items old.first old.kind h word to taken place allowed most))

    pub parts_next : (next : PartReading) → next.parts.items ≡ [] → next.first ≡ None → Keeps text (word.end + white) to next
    parts_next next none first = rw (none, first) (subst (λ (n : ℕ). Divided text n to [] None next.kind) same_end (divided_next text from at old.parts.items old.first old.kind h word to taken place allowed most next.kind))
