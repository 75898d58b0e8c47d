-- A part of a text with one unit is a piece.
use Rattle.std.proofs.Common.{[], ◌≡◌, ◌⊎◌, ℕ, ◌+◌, ◌-◌, ◌<◌, ◌≤◌, Bool, true, not, ◌||◌, List, ◌∷◌, ◌++◌, append_assoc, map, length, take, drop, get_or, Option, Some, None, Ok, refl, sym, ap, ◌∙◌}
use Rattle.std.proofs.{Common.{subst, inl, inr, arith, one-add}, lemmas.{Grind.{elements, common_steps}, Bool.{cases_Bool, false≢true, not-false}}}
use Rattle.std.proofs.lemmas.List.{append-nil, take-append-drop, append_cancel_right, drop-drop, length-append, length-map, length-take-le, length-drop, take-map}
use Rattle.std.proofs.lemmas.List.{Elements.{All-append, All-take, All-drop, All-nil, All-cons}, Quantifiers.{position-Some}, Sums.{prefix_len-le-length}}
use Rattle.std.{proofs.Math.{Seq.{take-add, take-append_seam, drop-append_seam}, Bool.{or-true}}, specs.{Prelude.{slice_range}, List.{AllByRecursion, AllPass, prefix_len}}}
use Rattle.mm_text.specs.{declared.word.Word.{Word}, Language.{Run.{Run, runs, runs_from, is_white, ends_run}, Reading.{is_allowed, first_bad, AreWords, HasWords}}}
use Rattle.mm_text.specs.Language.{Unit.{Token, tokens_of, shape_tokens, Units, Nothing, Simple, Block, unit_tokens, AreUnits}, Cut.{ends_white, ended, IsOneUnit, end_of_words, IsPiece, BeginsSolid}}
use Rattle.mm_text.{specs.{Language.Part.{HasUnits}, Code.{LeftToRight.{read_text}, Reader.{runs_at}}}, proofs.{RunLemmas.{skip_white}, ReadingLemmas.{text_words}}}
use Rattle.mm_text.proofs.{PositionLemmas.{Lying, words_lie, none_found}, UnitReadingLemmas.{IsWhole-run, run-IsWhole}}
use Rattle.mm_text.proofs.PieceLemmas.{feed_white, Seam, runs-append, shift_word, runs-shift, words_unshift, line_end, ended_is, runs-ended, ended-append, ends_behind}
use Rattle.mm_text.specs.Code.UnitReading as m

-- ---- bytes that a text may hold

pub allowed_all : (text : List ℕ) → first_bad text ≡ None → AllPass is_allowed text
allowed_all text e k d lt = not-false (is_allowed (get_or text k d)) (none_found (λ b. not (is_allowed b)) text e k d lt)

pub all_allowed : (text : List ℕ) → AllPass is_allowed text → first_bad text ≡ None
all_allowed text h = by_place (first_bad text) refl where
  by_place : (o : Option ℕ) → first_bad text ≡ o → first_bad text ≡ None
  by_place None e = e
  by_place (Some i) e =
      let bad = position-Some (λ b. not (is_allowed b)) text i 0 e in let good : is_allowed (get_or text i 0) ≡ true = h i 0 bad.0 in absurd (false≢true (ap not (sym good) ∙ bad.1))

feed_allowed : is_allowed 10 ≡ true
unfolding is_allowed is_white
feed_allowed = refl

-- the line feed that is added, if one is
feed_passes : (test : ℕ → Bool) (text : List ℕ) → test 10 ≡ true → AllPass test (line_end text)
feed_passes test text feed = grind (arith, common_steps) steps 200000

pub allowed-ended : (text : List ℕ) → first_bad text ≡ None → first_bad (ended text) ≡ None
allowed-ended text e =
    subst (λ (bs : List ℕ). first_bad bs ≡ None) (sym (ended_is text)) (all_allowed (text ++ line_end text) (All-append (λ b. is_allowed b ≡ true) text (line_end text) (allowed_all text e) (feed_passes is_allowed text feed_allowed)))

pub allowed_part : (text : List ℕ) (from to : ℕ) → first_bad text ≡ None → first_bad (slice_range text from to) ≡ None
allowed_part text from to e = all_allowed (slice_range text from to) (All-take (λ b. is_allowed b ≡ true) (to - from) (drop from text) (All-drop (λ b. is_allowed b ≡ true) from text (allowed_all text e)))

pub allowed_rest : (text : List ℕ) (from : ℕ) → first_bad text ≡ None → first_bad (drop from text) ≡ None
allowed_rest text from e = all_allowed (drop from text) (All-drop (λ b. is_allowed b ≡ true) from text (allowed_all text e))

-- ---- white space after a unit

abbrev pub AllWhite : List ℕ → Type 0
AllWhite bytes = AllByRecursion (λ b. is_white b ≡ true) bytes

prefix_white : (bytes : List ℕ) → AllWhite (take (prefix_len is_white bytes) bytes)
prefix_white [] = tt
prefix_white (b ∷ bytes) = elim (cases_Bool (is_white b)) [ inl white ↦ rw white (rw (one-add (prefix_len is_white bytes)) (white, prefix_white bytes)) | inr solid ↦ rw solid tt ]

white_ends : (bytes : List ℕ) → AllWhite bytes → ends_white bytes ≡ true
white_ends [] h = refl
white_ends (b ∷ []) h = h.0
white_ends (b ∷ c ∷ bytes) h = white_ends (c ∷ bytes) h.1

white_pass : (bytes : List ℕ) → AllWhite bytes → AllPass is_white bytes
white_pass [] h = All-nil (λ b. is_white b ≡ true)
white_pass (b ∷ bytes) h = All-cons (λ b. is_white b ≡ true) b bytes h.0 (white_pass bytes h.1)

pub solid_behind : (bytes : List ℕ) → BeginsSolid (drop (prefix_len is_white bytes) bytes)
solid_behind [] = tt
solid_behind (b ∷ bytes) = elim (cases_Bool (is_white b)) [ inl white ↦ rw white (rw (one-add (prefix_len is_white bytes)) (solid_behind bytes)) | inr solid ↦ rw solid solid ]

pub solid_ended : (bytes : List ℕ) → BeginsSolid bytes → BeginsSolid (ended bytes)
solid_ended bytes h = grind (arith, common_steps) steps 200000

seam_at : (before white rest : List ℕ) → AllWhite white → (white ≡ [] → ends_run rest ≡ true) → Seam (before ++ white) rest
seam_at before [] rest h ends = ap (λ (b : Bool). ends_white (before ++ []) || b) (ends refl) ∙ or-true (ends_white (before ++ []))
seam_at before (w ∷ white) rest h ends = ap (λ (b : Bool). b || ends_run rest) (ends_behind before white w ∙ white_ends (w ∷ white) h)

-- ---- words of a part

slice_front : (a b : ℕ) (part rest : List ℕ) → a ≤ b → b ≤ length part → slice_range (part ++ rest) a b ≡ slice_range part a b
slice_front a b part rest le within = grind (arith, common_steps) steps 200000

pub slice_part : (text part rest : List ℕ) (from a b : ℕ) → drop from text ≡ part ++ rest → a ≤ b → b ≤ length part → slice_range text (from + a) (from + b) ≡ slice_range part a b
slice_part text part rest from a b joined le within = grind (arith, common_steps, drop-drop a from text, slice_front a b part rest le within) steps 200000

-- a word without its place
abbrev pub bare : Token → Token
bare token = record { kind = token.kind; bytes = token.bytes; start = 0 }

-- a word with its place counted from a byte
abbrev pub unshift : ℕ → Token → Token
unshift from token = record { kind = token.kind; bytes = token.bytes; start = token.start - from }

bare_unshift : (from : ℕ) (tokens : List Token) → map bare (map (unshift from) tokens) ≡ map bare tokens
bare_unshift from [] = refl
bare_unshift from (token ∷ tokens) = ap (λ (ts : List Token). bare token ∷ ts) (bare_unshift from tokens)

pub tokens_unshift : (text part rest : List ℕ) (from : ℕ) → drop from text ≡ part ++ rest → (ws : List Word) (at : ℕ) → Lying part at ws → map (unshift from) (tokens_of text (map (shift_word from) ws)) ≡ tokens_of part ws
tokens_unshift text part rest from joined [] at h = refl
tokens_unshift text part rest from joined (w ∷ ws) at h = grind (arith, common_steps, tokens_unshift text part rest from joined ws (w.end + 1) h.2, shift_word, slice_part) steps 200000

pub tokens-shift : (text part rest : List ℕ) (from : ℕ) → drop from text ≡ part ++ rest → (ws : List Word) (at : ℕ) → Lying part at ws → map bare (tokens_of text (map (shift_word from) ws)) ≡ map bare (tokens_of part ws)
tokens-shift text part rest from joined ws at h = sym (bare_unshift from (tokens_of text (map (shift_word from) ws))) ∙ ap (map bare) (tokens_unshift text part rest from joined ws at h)

pub tokens-front : (part rest : List ℕ) (ws : List Word) (at : ℕ) → Lying part at ws → tokens_of (part ++ rest) ws ≡ tokens_of part ws
tokens-front part rest [] at h = refl
tokens-front part rest (w ∷ ws) at h = grind (arith, common_steps, slice_front w.start w.end part rest (omega arith) h.1.within, tokens-front part rest ws (w.end + 1) h.2) steps 200000

after_same : (step : m.UnitStep) (a b : List Token) → ((phase : m.Phase) (depth : ℕ) → m.run phase depth a ≡ m.run phase depth b) → m.after step (λ p d. m.run p d a) ≡ m.after step (λ p d. m.run p d b)
after_same step a b same = grind (arith, common_steps) steps 200000

-- the machine does not look at places
pub run_bare : (a b : List Token) (phase : m.Phase) (depth : ℕ) → map bare a ≡ map bare b → m.run phase depth a ≡ m.run phase depth b
run_bare [] [] phase depth e = refl
run_bare (x ∷ a) (y ∷ b) phase depth e =
    let first : bare x ≡ bare y = cc in
    let rest : map bare a ≡ map bare b = cc in
    ap (λ (t : Token). m.after (m.next phase depth t.kind (m.could_label t)) (λ p d. m.run p d a)) first ∙ after_same (m.next phase depth y.kind (m.could_label y)) a b (λ p d. run_bare a b p d rest)
run_bare _ _ phase depth e = absurd cc

-- ---- one unit

abbrev pub WholeRun : List Token → Type 0
WholeRun tokens = m.run m.Begin 0 tokens ≡ Ok (m.phase_state m.Begin 0)

-- no words at the front, but all of them, are whole
abbrev pub HasOne : List Token → Type 0
HasOne tokens = (n : ℕ) → 0 < n → n < length tokens → ¬ WholeRun (take n tokens)

units_some : (units : Units) → (units ≡ Nothing) ⊎ (0 < length (unit_tokens units))
units_some Nothing = inl refl
units_some (Simple shape later) = grind (arith, common_steps) steps 200000
units_some (Block begin inner end later) = inr (omega arith)

-- words of whole units, and then others
no_later : (front later : List Token) → HasOne (front ++ later) → 0 < length front → WholeRun front → 0 < length later → ⊥
no_later front later one some whole more = grind (arith, common_steps, length-append front later, m.run m.Begin 0, take-append_seam front later) steps 200000

later_none : (front : List Token) (later : Units) → HasOne (front ++ unit_tokens later) → 0 < length front → WholeRun front → later ≡ Nothing
later_none front later one some whole = grind (arith, elements, no_later, units_some) steps 200000

is_one : (tokens : List Token) (units : Units) → AreUnits true units → unit_tokens units ≡ tokens → 0 < length tokens → HasOne tokens → IsOneUnit units
is_one tokens Nothing h e some one = let none : length tokens ≡ 0 = ap length (sym e) in omega arith
is_one tokens (Simple shape later) h e some one = later_none (shape_tokens shape) later (subst HasOne (sym e) one) (grind (arith, common_steps) steps 200000)
    (IsWhole-run (shape_tokens shape) (Simple shape Nothing, (h.0, tt), append-nil (shape_tokens shape)))
is_one tokens (Block begin inner end later) h e some one =
    let joined : tokens ≡ (begin ∷ (unit_tokens inner ++ end ∷ [])) ++ unit_tokens later = sym e ∙ ap (λ (ts : List Token). begin ∷ ts) (sym (append_assoc (unit_tokens inner) (end ∷ []) (unit_tokens later))) in
    later_none (begin ∷ (unit_tokens inner ++ end ∷ [])) later (subst HasOne joined one) (omega arith) (IsWhole-run (begin ∷ (unit_tokens inner ++ end ∷ [])) (Block begin inner end Nothing, (h.0, h.1, h.2, tt), refl))

-- ---- where the last word ends

pub ends_at_last : (part : List Word) (word : Word) → end_of_words (part ++ word ∷ []) ≡ word.end
ends_at_last (w ∷ v ∷ part) word = ends_at_last (v ∷ part) word
ends_at_last _ word = refl

end_shift : (k : ℕ) (w : Word) (ws : List Word) → end_of_words (map (shift_word k) (w ∷ ws)) ≡ k + end_of_words (w ∷ ws)
end_shift k w [] = refl
end_shift k w (v ∷ ws) = end_shift k v ws

pub last_end : (k : ℕ) (ws part : List Word) (word : Word) → part ++ word ∷ [] ≡ map (shift_word k) ws → k + end_of_words ws ≡ word.end
last_end k [] [] word e = absurd cc
last_end k [] (v ∷ part) word e = absurd cc
last_end k (w ∷ ws) part word e = sym (end_shift k w ws) ∙ ap end_of_words (sym e) ∙ ends_at_last part word

-- ---- a piece

pub one_words : (text : List ℕ) (a b : List Word) → HasWords text a → HasWords text b → a ≡ b
one_words text a b f g = let x : read_text text ≡ Ok a = text_words text a f in let y : read_text text ≡ Ok b = text_words text b g in cc

module _ (text : List ℕ) (from to : ℕ) (since : List Run) (part : List Word) (word : Word) (allowed : first_bad text ≡ None) (le : from ≤ to) (within : to ≤ length text) (joined : runs_at text from ≡ since ++ runs_at text to)
    (reads : AreWords since (part ++ word ∷ [])) (end_is : word.end ≡ to) (ends : ends_run (drop to text) ≡ true) where
  abbrev pub white : ℕ
  white = prefix_len is_white (drop to text)

  abbrev pub piece_bytes : List ℕ
  piece_bytes = slice_range text from (to + white)

  pub white_within : to + white ≤ length text
  white_within = let most : white ≤ length (drop to text) = prefix_len-le-length is_white (drop to text) in let long : length (drop to text) ≡ length text - to = length-drop to text in omega arith

  halves : piece_bytes ≡ slice_range text from to ++ take white (drop to text)
  halves = grind (arith, common_steps, drop-drop (to - from) from text, take-add (to - from) white (drop from text)) steps 200000

  rest_is : drop white (drop to text) ≡ drop (to + white) text
  rest_is = drop-drop white to text

  pub piece_seam : Seam piece_bytes (drop (to + white) text)
  piece_seam = grind (arith, common_steps, halves, prefix_white, rest_is, seam_at) steps 200000

  pub piece_joined : drop from text ≡ piece_bytes ++ drop (to + white) text
  piece_joined = grind (arith, common_steps, drop-drop (to + white - from) from text, take-append-drop (to + white - from) (drop from text)) steps 200000

  pub rest_solid : BeginsSolid (drop (to + white) text)
  rest_solid = subst BeginsSolid rest_is (solid_behind (drop to text))

  pub rest_ended : ended (drop from text) ≡ ended piece_bytes ++ ended (drop (to + white) text)
  rest_ended = grind (arith, common_steps, ended-append, piece_joined, piece_seam, rest_solid) steps 200000

  pub runs_behind : runs_at text to ≡ runs_at text (to + white)
  runs_behind = skip_white to (drop to text) ∙ ap (runs_from (to + white)) rest_is

  piece_runs : runs_from from piece_bytes ≡ since
  piece_runs =
      let long : length piece_bytes ≡ to + white - from = grind (arith, common_steps, length-drop from text, white_within) steps 200000 in
      let end : from + length piece_bytes ≡ to + white = omega arith in
      grind (arith, common_steps, append_cancel_right, piece_joined, piece_seam, runs-append, runs_behind) steps 200000

  piece_words : (ws : List Word) × AreWords (runs piece_bytes) ws × (part ++ word ∷ [] ≡ map (shift_word from) ws)
  piece_words =
      let place : from ≡ from + 0 = omega arith in
      words_unshift from (runs piece_bytes) (part ++ word ∷ []) (subst (λ (rs : List Run). AreWords rs (part ++ word ∷ [])) (sym piece_runs ∙ ap (λ (n : ℕ). runs_from n piece_bytes) place ∙ runs-shift from 0 piece_bytes) reads)

  has : HasWords piece_bytes piece_words.0
  has = record { allowed = allowed_part text from (to + white) allowed; words_are = piece_words.1 }

  has_ended : HasWords (ended piece_bytes) piece_words.0
  has_ended = record { allowed = allowed-ended piece_bytes (allowed_part text from (to + white) allowed); words_are = subst (λ (rs : List Run). AreWords rs piece_words.0) (sym (runs-ended 0 piece_bytes)) piece_words.1 }

  -- the words of the part, with their places in the piece
  same_places : map (unshift from) (tokens_of text (part ++ word ∷ [])) ≡ tokens_of (ended piece_bytes) piece_words.0
  same_places =
      let lie : Lying piece_bytes 0 piece_words.0 = words_lie piece_bytes piece_words.0 has in
      ap (λ (ws : List Word). map (unshift from) (tokens_of text ws)) piece_words.2 ∙ tokens_unshift text piece_bytes (drop (to + white) text) from piece_joined piece_words.0 0 lie
      ∙ sym (ap (λ (bs : List ℕ). tokens_of bs piece_words.0) (ended_is piece_bytes) ∙ tokens-front piece_bytes (line_end piece_bytes) piece_words.0 0 lie)

  -- and without them
  same_tokens : map bare (tokens_of (ended piece_bytes) piece_words.0) ≡ map bare (tokens_of text (part ++ word ∷ []))
  same_tokens = ap (map bare) (sym same_places) ∙ bare_unshift from (tokens_of text (part ++ word ∷ []))

  -- units that the piece has are spelled by these words
  pub piece_spells : (units : Units) → HasUnits (ended piece_bytes) units → unit_tokens units ≡ map (unshift from) (tokens_of text (part ++ word ∷ []))
  piece_spells units has = has.spells ∙ ap (tokens_of (ended piece_bytes)) (one_words (ended piece_bytes) has.words piece_words.0 has.has_words has_ended) ∙ sym same_places

  white_behind : AllPass is_white (drop (end_of_words piece_words.0) (ended piece_bytes))
  white_behind =
      let last : from + end_of_words piece_words.0 ≡ word.end = last_end from piece_words.0 part word piece_words.2 in
      let long : length (slice_range text from to) ≡ to - from = length-take-le (to - from) (drop from text) (let all : length (drop from text) ≡ length text - from = length-drop from text in omega arith) in
      let end : end_of_words piece_words.0 ≡ length (slice_range text from to) = omega (arith, end_is, last, long) in
      let bytes : ended piece_bytes ≡ slice_range text from to ++ (take white (drop to text) ++ line_end piece_bytes) = ended_is piece_bytes ∙ ap (λ (bs : List ℕ). bs ++ line_end piece_bytes) halves
      ∙ append_assoc (slice_range text from to) (take white (drop to text)) (line_end piece_bytes) in
      let behind : drop (end_of_words piece_words.0) (ended piece_bytes) ≡ take white (drop to text) ++ line_end piece_bytes = ap (λ (n : ℕ). drop n (ended piece_bytes)) end
      ∙ ap (drop (length (slice_range text from to))) bytes ∙ drop-append_seam (slice_range text from to) (take white (drop to text) ++ line_end piece_bytes) in
      subst (λ (bs : List ℕ). AllPass is_white bs) (sym behind)
      (All-append (λ b. is_white b ≡ true) (take white (drop to text)) (line_end piece_bytes) (white_pass (take white (drop to text)) (prefix_white (drop to text))) (feed_passes is_white piece_bytes feed_white))

  pub piece_is : WholeRun (tokens_of text (part ++ word ∷ [])) → HasOne (tokens_of text (part ++ word ∷ [])) → IsPiece (ended piece_bytes)
  piece_is whole one = record {
    unit = record {
      words = piece_words.0;
      units = units.0;
      has_words = has_ended;
      are_units = units.1;
      spells = units.2;
      one = is_one (tokens_of (ended piece_bytes) piece_words.0) units.0 units.1 units.2
          (grind (arith, common_steps, length-append, length-map, long) steps 200000) has_one;
      ends = grind (arith, common_steps, cases_Bool (ends_white piece_bytes), ends_behind piece_bytes [] 10, feed_white) steps 200000;
    };
    white = white_behind;
  } where
    units : (units : Units) × AreUnits true units × (unit_tokens units ≡ tokens_of (ended piece_bytes) piece_words.0)
    units = run-IsWhole (tokens_of (ended piece_bytes) piece_words.0) (grind (arith, common_steps, piece_words, run_bare, same_tokens) steps 200000)

    long : length (tokens_of (ended piece_bytes) piece_words.0) ≡ length (tokens_of text (part ++ word ∷ []))
    long = sym (length-map (tokens_of (ended piece_bytes) piece_words.0) bare) ∙ ap length same_tokens ∙ length-map (tokens_of text (part ++ word ∷ [])) bare

    has_one : HasOne (tokens_of (ended piece_bytes) piece_words.0)
    has_one n few less first =
        one n few (omega (arith, long)) (run_bare (take n (tokens_of text (part ++ word ∷ []))) (take n (tokens_of (ended piece_bytes) piece_words.0)) m.Begin 0
        (sym (take-map bare n (tokens_of text (part ++ word ∷ []))) ∙ ap (take n) (sym same_tokens) ∙ take-map bare n (tokens_of (ended piece_bytes) piece_words.0)) ∙ first)
