-- Reading is local: what a part of a text holds, that ends in white space.
use Rattle.std.proofs.Common.{[], ◌≡◌, ℕ, suc, ◌+◌, ◌-◌, Bool, true, false, ◌||◌, List, ◌∷◌, ◌++◌, map, length, Option, Some, None, Ok, Err, refl, sym, ap, ◌∙◌, inl, inr, arith, append-nil, slice_get}
use Rattle.std.{proofs.{Common.{if◌then◌else◌}, lemmas.{Grind.{common_steps}, Bool.{cases_Bool}}}, specs.Str.{bytes_eq}}
use Rattle.mm_text.specs.{declared.{word.{Word.{Word}, WordKind.{WordKind}}, fault.TextFault.{TextFault}}, Language.{Run.{Run, runs_from, is_white, ends_run, with_first_byte}, Spelling.{closing}}}
use Rattle.mm_text.{specs.{Language.{Reading.{AreWords}, Cut.{ends_white, ended}}, Code.LeftToRight.{Read, read_runs, word_alone, holds_mark}}, proofs.LayoutLemmas.{front_step}}
use Rattle.mm_text.proofs.{ReadLemmas.{inside_end, inside_mark, inside_more, outside_open, outside_close, outside_word}, ReadingLemmas.{read_words, words_from_read, is_from, not_from}}

-- ---- runs of a text in two parts

abbrev made : ℕ → List ℕ → Run
made at bytes = record { start = at; bytes = bytes }

alone_step : (at b : ℕ) (bytes : List ℕ) → is_white b ≡ false → ends_run bytes ≡ true → runs_from at (b ∷ bytes) ≡ made at (b ∷ []) ∷ runs_from (at + 1) bytes
alone_step at b bytes solid ends = rw (solid, ends) refl

-- the first part ends in white space, or the second begins with it, or one is empty
abbrev pub Seam : List ℕ → List ℕ → Type 0
Seam a b = (ends_white a || ends_run b) ≡ true

seam_tail : (c : ℕ) (a b : List ℕ) → Seam (c ∷ a) b → Seam a b
seam_tail c a b h = grind (arith, common_steps) steps 200000

some_run : (at b : ℕ) (bytes : List ℕ) → is_white b ≡ false → (run : Run) × (more : List Run) × (runs_from at (b ∷ bytes) ≡ run ∷ more)
some_run at b [] solid = (made at (b ∷ []), [], alone_step at b [] solid refl)
some_run at b (c ∷ bytes) solid =
    elim (cases_Bool (is_white c)) [
      | inl white ↦ (made at (b ∷ []), runs_from (at + 1) (c ∷ bytes), alone_step at b (c ∷ bytes) solid white)
      | inr on ↦ let more = some_run (at + 1) c bytes on in (record { start = at; bytes = b ∷ more.0.bytes }, more.1, front_step at b (c ∷ bytes) solid on ∙ ap (with_first_byte at b) more.2)
    ]

front_there : (at c : ℕ) (a : List ℕ) (ss : List Run) → ends_run a ≡ false → with_first_byte at c (runs_from (at + 1) a ++ ss) ≡ with_first_byte at c (runs_from (at + 1) a) ++ ss
front_there at c [] ss on = absurd cc
front_there at c (d ∷ a) ss on = let some = some_run (at + 1) d a on in grind (arith, common_steps) steps 200000

pub runs-append : (a b : List ℕ) (at : ℕ) → Seam a b → runs_from at (a ++ b) ≡ runs_from at a ++ runs_from (at + length a) b
runs-append [] b at h = let same : at ≡ at + 0 = omega arith in ap (λ (k : ℕ). runs_from k b) same
runs-append (c ∷ a) b at h =
    grind (arith, common_steps, runs-append a b (at + 1) (seam_tail c a b h), cases_Bool (ends_run a), front_step, front_there, seam_tail c a b h) steps 200000

-- ---- runs at another place

abbrev pub shift_run : ℕ → Run → Run
shift_run k run = record { start = k + run.start; bytes = run.bytes }

abbrev pub shift_word : ℕ → Word → Word
shift_word k word = record { kind = word.kind; start = k + word.start; end = k + word.end }

front-shift : (k at b : ℕ) (rs : List Run) → with_first_byte (k + at) b (map (shift_run k) rs) ≡ map (shift_run k) (with_first_byte at b rs)
front-shift k at b rs = grind (arith, common_steps) steps 200000

pub runs-shift : (k at : ℕ) (bytes : List ℕ) → runs_from (k + at) bytes ≡ map (shift_run k) (runs_from at bytes)
runs-shift k at [] = refl
runs-shift k at (b ∷ bytes) =
    grind (arith, common_steps, runs-shift k (at + 1) bytes, cases_Bool (is_white b), front-shift k at b (runs_from (at + 1) bytes), front_step) steps 200000

abbrev shift_fault : ℕ → TextFault → TextFault
shift_fault k fault = record { number = fault.number; at = k + fault.at }

abbrev shift_read : ℕ → Read → Read
shift_read k (Ok words) = Ok (map (shift_word k) words)
shift_read k (Err fault) = Err (shift_fault k fault)

abbrev shift_state : ℕ → Option ℕ → Option ℕ
shift_state k None = None
shift_state k (Some start) = Some (k + start)

alone-shift : (k : ℕ) (run : Run) (kind : Option WordKind) (r : Read) → word_alone (shift_run k run) kind (shift_read k r) ≡ shift_read k (word_alone run kind r)
alone-shift k run kind r = grind (arith, common_steps) steps 200000

pub read-shift : (k : ℕ) (state : Option ℕ) (rs : List Run) → read_runs (shift_state k state) (map (shift_run k) rs) ≡ shift_read k (read_runs state rs)
read-shift k None [] = refl
read-shift k (Some start) [] = refl
read-shift k None (run ∷ rs) =
    grind (arith, common_steps, read-shift k (Some run.start) rs, read-shift k None rs, alone-shift, cases_Bool, is_from, not_from, outside_close, outside_open, outside_word) steps 200000
read-shift k (Some start) (run ∷ rs) =
    elim (cases_Bool (bytes_eq run.bytes closing)) [
      | inl closes ↦ let is = is_from run.bytes closing closes in inside_end (k + start) (shift_run k run) (map (shift_run k) rs) is ∙ read-shift k None rs ∙ ap (shift_read k) (sym (inside_end start run rs is))
      | inr no_close ↦ grind (arith, common_steps, not_from run.bytes closing no_close, cases_Bool (holds_mark run.bytes), read-shift k (Some start) rs, inside_mark, inside_more) steps 200000
    ]

pub words-shift : (k : ℕ) (rs : List Run) (ws : List Word) → AreWords rs ws → AreWords (map (shift_run k) rs) (map (shift_word k) ws)
words-shift k rs ws h = words_from_read (map (shift_run k) rs) (map (shift_word k) ws) (read-shift k None rs ∙ ap (shift_read k) (read_words rs ws h))

pub words_unshift : (k : ℕ) (rs : List Run) (vs : List Word) → AreWords (map (shift_run k) rs) vs → (ws : List Word) × AreWords rs ws × (vs ≡ map (shift_word k) ws)
words_unshift k rs vs h = by_read (read_runs None rs) refl where
  by_read : (r : Read) → read_runs None rs ≡ r → (ws : List Word) × AreWords rs ws × (vs ≡ map (shift_word k) ws)
  by_read (Ok ws) is = grind (arith, common_steps, read-shift k None rs, read_words (map (shift_run k) rs) vs h, words_from_read rs ws is) steps 200000
  by_read (Err fault) is = grind (arith, common_steps, read-shift k None rs, read_words (map (shift_run k) rs) vs h) steps 200000

-- ---- the line feed at the end of a text

-- what is added to a text that does not end in white space
abbrev pub line_end : List ℕ → List ℕ
line_end text = if ends_white text then [] else 10 ∷ []

pub ended_is : (text : List ℕ) → ended text ≡ text ++ line_end text
ended_is text = elim (cases_Bool (ends_white text)) [ inl white ↦ rw white (sym (append-nil text)) | inr open_end ↦ rw open_end refl ]

pub feed_white : is_white 10 ≡ true
unfolding is_white
feed_white = refl

pub runs-ended : (at : ℕ) (text : List ℕ) → runs_from at (ended text) ≡ runs_from at text
runs-ended at text = grind (arith, common_steps, append-nil, cases_Bool, ended_is, feed_white, runs-append) steps 200000

pub ends_behind : (a b : List ℕ) (c : ℕ) → ends_white (a ++ c ∷ b) ≡ ends_white (c ∷ b)
ends_behind (d ∷ e ∷ a) b c = ends_behind (e ∷ a) b c
ends_behind _ b c = refl

-- a part that ends in white space, or the last one
pub ended-append : (a b : List ℕ) → Seam a b → (ends_run b ≡ true → b ≡ []) → ended (a ++ b) ≡ ended a ++ ended b
ended-append a b h solid = grind (arith, common_steps, append-nil, cases_Bool, ends_behind) steps 200000

abbrev pub white_or_none : Option ℕ → Bool
white_or_none None = true
white_or_none (Some b) = is_white b

-- the last byte
pub ends_as_last : (text : List ℕ) → ends_white text ≡ white_or_none (slice_get text (length text - 1))
ends_as_last (b ∷ c ∷ text) = ends_as_last (c ∷ text) ∙ (let same : length (b ∷ c ∷ text) - 1 ≡ suc (length (c ∷ text) - 1) = omega arith in ap (λ (n : ℕ). white_or_none (slice_get (b ∷ c ∷ text) n)) (sym same))
ends_as_last _ = refl
