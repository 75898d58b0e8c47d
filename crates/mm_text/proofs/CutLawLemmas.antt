-- A text has one cut at most, one first fault at most, and never both; and a text whose cut has one piece holds one unit.
use Rattle.std.proofs.Common.{[], ◌≡◌, ◌⊎◌, ℕ, zero, suc, ◌+◌, ◌<◌, ◌≤◌, true, List, ◌∷◌, ◌++◌, append_assoc, map, length, drop, slice_get, Some, None, Ok, Err, refl, sym, ap, ◌∙◌, subst, inl, inr}
use Rattle.std.proofs.{Common.{arith}, lemmas.{Bool.{cases_Bool, false≢true}, Grind.{common_steps}}}
use Rattle.std.proofs.lemmas.List.{append-nil, map-append, append_cancel_left, take-append-le, drop-append-le, length-append, get_or-append_right, Elements.{All-take, All-append}}
use Rattle.std.{proofs.{lemmas.Option.{slice_get_within}, Math.Seq.{take-append_seam, drop-append_seam}}, specs.List.{concat, AllPass}}
use Rattle.mm_text.proofs.PieceLemmas.{feed_white, ends_behind, runs-append, shift_run, shift_word, runs-shift, words-shift, line_end, ended_is, runs-ended}
use Rattle.mm_text.proofs.{ReadingLemmas.{closer, closer_closes, close_step, in_comment, read_whole, read_words, same_words, text_words, text_fault}, ReaderLemmas.{ends_open, words-append}}
use Rattle.mm_text.proofs.{PositionLemmas.{Lying, words_lie}, UnitReadingLemmas.{run-append, run-IsViable, IsWhole-run, run-IsWhole}}
use Rattle.mm_text.proofs.{UnitFaultLemmas.{cut_twice, viable_front, not_viable_all, block_viable, one_stop, one_unit_fault, whole_has_no_fault}, UnitDivisionLemmas.{one_division}}
use Rattle.mm_text.{proofs.PieceUnitLemmas.{one_words, allowed_all, all_allowed, bare, tokens-shift, tokens-front, run_bare, WholeRun}, specs.declared.{word.Word.{Word}, fault.TextFault.{TextFault}}}
use Rattle.mm_text.specs.{declared.fault.TextNumber.{TextNumber, TheVariants.{T01, T02, T03, T04, T05, T07, T08}}, Language.Run.{Run, runs, is_white}}
use Rattle.mm_text.specs.Language.Reading.{is_allowed, first_bad, AreWords, HasWords, AreViableRuns, IsWordsFaultAt}
use Rattle.mm_text.specs.Language.Unit.{Token, token_of, tokens_of, Units, Nothing, Simple, Block, unit_tokens, AreUnits, IsViable, IsUnitFault}
use Rattle.mm_text.specs.Language.Cut.{ends_white, ended, IsOneUnit, end_of_words, HoldsOneUnit, IsPiece, BeginsSolid, ArePieces, IsCut, StopsWords, StopsUnits, IsFirstFaultAt, IsFirstFault}
use Rattle.mm_text.specs.{Language.Part.{HasUnits}, Code.{Reader.{HoldWords}, LeftToRight.{Read, read_runs, with_words, words_fault_at, read_text}}}
use Rattle.mm_text.specs.Language.Unit as units
use Rattle.mm_text.specs.Code.UnitReading as m

-- ---- two texts, one after another

runs_joined : (a b : List ℕ) → ends_white a ≡ true → runs (a ++ b) ≡ runs a ++ map (shift_run (length a)) (runs b)
runs_joined a b white = grind (arith, common_steps, runs-shift (length a) 0 b, runs-append) steps 200000

allowed_front : (a b : List ℕ) → first_bad (a ++ b) ≡ None → first_bad a ≡ None
allowed_front a b h = all_allowed a (subst (λ (bs : List ℕ). AllPass is_allowed bs) (take-append_seam a b) (All-take (λ x. is_allowed x ≡ true) (length a) (a ++ b) (allowed_all (a ++ b) h)))

join_words : (a b : List ℕ) (ws vs : List Word) → ends_white a ≡ true → HasWords a ws → HasWords b vs → HasWords (a ++ b) (ws ++ map (shift_word (length a)) vs)
join_words a b ws vs white f g = record {
  allowed = all_allowed (a ++ b) (All-append (λ x. is_allowed x ≡ true) a b (allowed_all a f.allowed) (allowed_all b g.allowed));
  words_are = grind (arith, common_steps, runs_joined, shift_run, shift_word, words-append, words-shift) steps 200000;
}

join_whole : (a b : List ℕ) (ws vs : List Word) → HasWords a ws → HasWords b vs → WholeRun (tokens_of a ws) → WholeRun (tokens_of b vs) → WholeRun (tokens_of (a ++ b) (ws ++ map (shift_word (length a)) vs))
join_whole a b ws vs f g x y = run_bare (tokens_of (a ++ b) (ws ++ map (shift_word (length a)) vs)) (tokens_of a ws ++ tokens_of b vs) m.Begin 0
    (let later : map bare (tokens_of (a ++ b) (map (shift_word (length a)) vs)) ≡ map bare (tokens_of b vs) = tokens-shift (a ++ b) b [] (length a)
    (drop-append_seam a b ∙ sym (append-nil b)) vs 0 (words_lie b vs g) in ap (map bare) (map-append (token_of (a ++ b)) ws
    (map (shift_word (length a)) vs) ∙ ap (λ (ts : List Token). ts ++ tokens_of (a ++ b) (map (shift_word (length a)) vs))
    (tokens-front a b ws 0 (words_lie a ws f))) ∙ map-append bare (tokens_of a ws) (tokens_of (a ++ b) (map (shift_word (length a)) vs))
    ∙ ap (λ (ts : List Token). map bare (tokens_of a ws) ++ ts) later ∙ sym (map-append bare (tokens_of a ws) (tokens_of b vs)))
    ∙ run-append (tokens_of a ws) (tokens_of b vs) m.Begin 0 (m.Begin, 0) x ∙ y

-- ---- the words of a text that has a cut

-- the text has words, and they are whole units
record HoldsWhole (text : List ℕ) : Type 0 where
  found : List Word
  has_words : HasWords text found
  whole : WholeRun (tokens_of text found)

pieces_words : (pieces : List (List ℕ)) (tail : List ℕ) → ArePieces pieces tail → HoldsWhole (concat pieces ++ tail)
pieces_words [] tail h = record { found = []; has_words = h; whole = refl }
pieces_words (piece ∷ pieces) tail h =
    let rest = pieces_words pieces tail h.2 in
    subst (λ (bs : List ℕ). HoldsWhole bs) (sym (append_assoc piece (concat pieces) tail)) (record {
      found = h.0.unit.words ++ map (shift_word (length piece)) rest.found;
      has_words = join_words piece (concat pieces ++ tail) h.0.unit.words rest.found h.0.unit.ends h.0.unit.has_words rest.has_words;
      whole = join_whole piece (concat pieces ++ tail) h.0.unit.words rest.found h.0.unit.has_words rest.has_words (IsWhole-run (tokens_of piece h.0.unit.words) (h.0.unit.units, h.0.unit.are_units, h.0.unit.spells)) rest.whole;
    })

cut_units : (text : List ℕ) (pieces : List (List ℕ)) (tail : List ℕ) → IsCut text pieces tail → HoldsWhole text
cut_units text pieces tail h = record {
  found = all.found;
  has_words = has;
  whole = ap (m.run m.Begin 0) (sym (ap (λ (bs : List ℕ). tokens_of bs all.found) (ended_is text) ∙ tokens-front text (line_end text) all.found 0
      (words_lie text all.found has))) ∙ all.whole;
} where
  all : HoldsWhole (ended text)
  all = subst (λ (bs : List ℕ). HoldsWhole bs) h.joined (pieces_words pieces tail h.are_pieces)

  has : HasWords text all.found
  has = record {
    allowed = allowed_front text (line_end text) (subst (λ (bs : List ℕ). first_bad bs ≡ None) (ended_is text) all.has_words.allowed);
    words_are = subst (λ (rs : List Run). AreWords rs all.found) (runs-ended 0 text) all.has_words.words_are;
  }

-- ---- words of the beginning

more_found : (front zs : List Run) (found later : List Word) → AreWords front found → AreWords (front ++ zs) later → (us : List Word) × (later ≡ found ++ us)
more_found front zs found later f g = by_read (read_runs None zs) refl where
  by_read : (r : Read) → read_runs None zs ≡ r → (us : List Word) × (later ≡ found ++ us)
  by_read (Ok us) is =
      (us, let e : Ok later ≡ Ok (found ++ us) = sym (sym (read_whole front found f zs) ∙ read_words (front ++ zs) later g) ∙ ap (with_words found) is in cc)
  by_read (Err fault) is =
      absurd (let e : Ok later ≡ Err fault = sym (sym (read_whole front found f zs) ∙ read_words (front ++ zs) later g) ∙ ap (with_words found) is in cc)

-- what is held after more runs begins with the words before
longer : (front zs : List Run) (found later : List Word) → AreWords front found → HoldWords (front ++ zs) later → (us : List Word) × (later ≡ found ++ us)
longer front zs found later f (inl h) = more_found front zs found later f h
longer front zs found later f (inr h) =
    more_found front (zs ++ closer ∷ []) found later f (subst (λ (rs : List Run). AreWords rs later) (append_assoc front zs (closer ∷ [])) (close_step h.first.start (front ++ zs) later closer (in_comment (front ++ zs) later h) closer_closes))

-- ---- the kinds of first faults

record MeetsWords (text : List ℕ) (number : TextNumber) (at : ℕ) : Type 0 where
  allowed : first_bad text ≡ None
  fault : IsWordsFaultAt text number at
  front : List Run
  rest : List Run
  joined : runs text ≡ front ++ rest
  found : List Word
  held : HoldWords front found
  viable : IsViable (tokens_of text found)
  stuck : (run : Run) (more : List Run) → rest ≡ run ∷ more → ¬ AreViableRuns (front ++ run ∷ [])

record EndsEarly (text : List ℕ) (number : TextNumber) (at : ℕ) : Type 0 where
  found : List Word
  has_words : HasWords text found
  word : ℕ
  token : Token
  fault : IsUnitFault (tokens_of text found) number word
  viable : IsViable (tokens_of text found)
  there : slice_get (tokens_of text found) word ≡ Some token
  place : at ≡ token.start

abbrev MeetsUnits : List ℕ → TextNumber → ℕ → Type 0
MeetsUnits text number at = (first_bad text ≡ None) × StopsUnits text number at

abbrev HasBadByte : List ℕ → TextNumber → ℕ → Type 0
HasBadByte text number at = (number ≡ T01) × (first_bad text ≡ Some at)

abbrev Sorted : List ℕ → TextNumber → ℕ → Type 0
Sorted text number at = (HasBadByte text number at) ⊎ ((MeetsWords text number at) ⊎ ((MeetsUnits text number at) ⊎ (EndsEarly text number at)))

meets : (text : List ℕ) (number : TextNumber) (at : ℕ) → first_bad text ≡ None → IsWordsFaultAt text number at → StopsWords text number at → MeetsWords text number at
meets text number at allowed fault h = grind (arith, common_steps) steps 200000

sorted : (text : List ℕ) (number : TextNumber) (at : ℕ) → IsFirstFaultAt text number at → Sorted text number at
sorted text T01 at h = inl (refl, h)
sorted text T02 at h = inr (inl (record {
  allowed = h.0;
  fault = (h.0, ends_open (runs text) h.1.found at h.1.read h.1.place);
  front = runs text;
  rest = [];
  joined = sym (append-nil (runs text));
  found = h.1.found;
  held = inr h.1.read;
  viable = h.1.viable;
  stuck = λ run more e. absurd cc;
}))
sorted text T03 at h = inr (inl (meets text T03 at h.0 (h.0, h.1.stop) h.1))
sorted text T04 at h = inr (inl (meets text T04 at h.0 (h.0, h.1.stop) h.1))
sorted text T05 at h = inr (inl (meets text T05 at h.0 (h.0, h.1.stop) h.1))
sorted text T07 at h = inr (inr (inr (record { found = h.found; has_words = h.has_words; word = h.word; token = h.token; fault = h.ends; viable = h.ends.viable; there = h.there; place = h.place })))
sorted text T08 at h = inr (inr (inr (record { found = h.found; has_words = h.has_words; word = h.word; token = h.token; fault = h.ends; viable = block_viable (tokens_of text h.found) h.word h.ends; there = h.there; place = h.place })))
sorted text _ at h = inr (inr (inl h))

-- ---- no two kinds at once

bad_alone : (text : List ℕ) (number : TextNumber) (at : ℕ) → HasBadByte text number at → first_bad text ≡ None → ⊥
bad_alone text number at h allowed = cc

words_apart : (text : List ℕ) (number : TextNumber) (at : ℕ) (found : List Word) → IsWordsFaultAt text number at → HasWords text found → ⊥
words_apart text number at found f g = let x : read_text text ≡ Err (words_fault_at number at) = text_fault text number at f in let y : read_text text ≡ Ok found = text_words text found g in cc

-- words of the whole text go on after those that stop
units_apart : (text : List ℕ) (number : TextNumber) (at : ℕ) (found : List Word) → StopsUnits text number at → HasWords text found → ¬ IsViable (tokens_of text found)
units_apart text number at found f g viable =
    let more = longer f.front f.rest f.found found f.read (inl (subst (λ (rs : List Run). AreWords rs found) f.joined g.words_are)) in
    (not_viable_all (tokens_of text f.found) number f.word f.stop (viable_front (tokens_of text f.found) (tokens_of text more.0)
    (subst (λ (ts : List Token). IsViable ts) (map-append (token_of text) f.found more.0) (subst (λ (ws : List Word). IsViable (tokens_of text ws)) more.1
    viable))))

met_apart : (text : List ℕ) (a b : TextNumber) (i j : ℕ) → MeetsWords text a i → StopsUnits text b j → ⊥
met_apart text a b i j f g = by_cut (cut_twice f.front f.rest g.front g.rest (sym f.joined ∙ g.joined)) where
  before : (zs : List Run) → g.front ≡ f.front ++ zs → f.rest ≡ zs ++ g.rest → ⊥
  before [] is rest = let more = longer g.front [] g.found f.found g.read (subst (λ (rs : List Run). HoldWords rs f.found) (sym (append-nil f.front) ∙ sym is
      ∙ sym (append-nil g.front)) f.held) in (not_viable_all (tokens_of text g.found) b g.word g.stop (viable_front (tokens_of text g.found)
      (tokens_of text more.0) (subst (λ (ts : List Token). IsViable ts) (map-append (token_of text) g.found more.0)
      (subst (λ (ws : List Word). IsViable (tokens_of text ws)) more.1 f.viable))))
  before (z ∷ zs) is rest = grind (arith, common_steps, append_assoc f.front (z ∷ []) zs) steps 200000

  by_cut : ((zs : List Run) × (f.front ≡ g.front ++ zs) × (zs ++ f.rest ≡ g.rest)) ⊎ ((zs : List Run) × (g.front ≡ f.front ++ zs) × (f.rest ≡ zs ++ g.rest)) → ⊥
  by_cut (inl h) = let more = longer g.front h.0 g.found f.found g.read (subst (λ (rs : List Run). HoldWords rs f.found) h.1 f.held) in
      (not_viable_all (tokens_of text g.found) b g.word g.stop (viable_front (tokens_of text g.found) (tokens_of text more.0)
      (subst (λ (ts : List Token). IsViable ts) (map-append (token_of text) g.found more.0) (subst (λ (ws : List Word). IsViable (tokens_of text ws))
      more.1 f.viable))))
  by_cut (inr h) = before h.0 h.1 h.2

-- ---- one fault of each kind

slice_get-front : (a b : List Token) (n : ℕ) (token : Token) → slice_get a n ≡ Some token → slice_get (a ++ b) n ≡ Some token
slice_get-front [] b n token e = absurd cc
slice_get-front (x ∷ a) b zero token e = e
slice_get-front (x ∷ a) b (suc n) token e = slice_get-front a b n token e

stop_more : (a b : List Token) (number : TextNumber) (word : ℕ) (h : units.StopsAtWord a number word) → units.StopsAtWord (a ++ b) number word
stop_more a b number word h =
    let within : word < length a = slice_get_within a word h.token h.there in
    grind (arith, common_steps, slice_get-front a b word h.token h.there, take-append-le (word + 1) a b (omega arith)) steps 200000

-- after more runs
later_stop : (text : List ℕ) (a b : TextNumber) (i j : ℕ) (f : StopsUnits text a i) (g : StopsUnits text b j) (zs : List Run) → g.front ≡ f.front ++ zs → (a ≡ b) × (i ≡ j)
later_stop text a b i j f g zs is =
    let more = longer f.front zs f.found g.found f.read (inl (subst (λ (rs : List Run). AreWords rs g.found) is g.read)) in
    let tokens : tokens_of text f.found ++ tokens_of text more.0 ≡ tokens_of text g.found = sym (map-append (token_of text) f.found more.0) ∙ ap (tokens_of text) (sym more.1) in
    let stop : units.StopsAtWord (tokens_of text f.found ++ tokens_of text more.0) b g.word = subst (λ (ts : List Token). units.StopsAtWord ts b g.word) (sym tokens) g.stop in
    let one = one_stop (tokens_of text f.found ++ tokens_of text more.0) a b f.word g.word (stop_more (tokens_of text f.found) (tokens_of text more.0) a f.word f.stop) stop in
    grind (arith, common_steps) steps 200000

one_stop_of : (text : List ℕ) (a b : TextNumber) (i j : ℕ) → StopsUnits text a i → StopsUnits text b j → (a ≡ b) × (i ≡ j)
one_stop_of text a b i j f g = by_cut (cut_twice f.front f.rest g.front g.rest (sym f.joined ∙ g.joined)) where
  by_cut : ((zs : List Run) × (f.front ≡ g.front ++ zs) × (zs ++ f.rest ≡ g.rest)) ⊎ ((zs : List Run) × (g.front ≡ f.front ++ zs) × (f.rest ≡ zs ++ g.rest)) → (a ≡ b) × (i ≡ j)
  by_cut (inl h) = let other = later_stop text b a j i g f h.0 h.1 in (sym other.0, sym other.1)
  by_cut (inr h) = later_stop text a b i j f g h.0 h.1

one_end : (text : List ℕ) (a b : TextNumber) (i j : ℕ) → EndsEarly text a i → EndsEarly text b j → (a ≡ b) × (i ≡ j)
one_end text a b i j f g = grind (arith, common_steps, same_words (runs text) g.found f.found g.has_words.words_are f.has_words.words_are, one_unit_fault) steps 200000

one_bad : (text : List ℕ) (a b : TextNumber) (i j : ℕ) → HasBadByte text a i → HasBadByte text b j → (a ≡ b) × (i ≡ j)
one_bad text a b i j f g = (f.0 ∙ sym g.0, cc)

same_fault : (text : List ℕ) (a b : TextNumber) (i j : ℕ) → Sorted text a i → Sorted text b j → (a ≡ b) × (i ≡ j)
same_fault text a b i j (inl f) (inl g) = one_bad text a b i j f g
same_fault text a b i j (inl f) (inr (inl g)) = absurd (bad_alone text a i f g.allowed)
same_fault text a b i j (inl f) (inr (inr (inl g))) = absurd (bad_alone text a i f g.0)
same_fault text a b i j (inl f) (inr (inr (inr g))) = absurd (bad_alone text a i f g.has_words.allowed)
same_fault text a b i j (inr (inl f)) (inl g) = absurd (bad_alone text b j g f.allowed)
same_fault text a b i j (inr (inl f)) (inr (inl g)) = grind (arith, common_steps, text_fault) steps 200000
same_fault text a b i j (inr (inl f)) (inr (inr (inl g))) = absurd (met_apart text a b i j f g.1)
same_fault text a b i j (inr (inl f)) (inr (inr (inr g))) = absurd (words_apart text a i g.found f.fault g.has_words)
same_fault text a b i j (inr (inr (inl f))) (inl g) = absurd (bad_alone text b j g f.0)
same_fault text a b i j (inr (inr (inl f))) (inr (inl g)) = absurd (met_apart text b a j i g f.1)
same_fault text a b i j (inr (inr (inl f))) (inr (inr (inl g))) = one_stop_of text a b i j f.1 g.1
same_fault text a b i j (inr (inr (inl f))) (inr (inr (inr g))) = absurd (units_apart text a i g.found f.1 g.has_words g.viable)
same_fault text a b i j (inr (inr (inr f))) (inl g) = absurd (bad_alone text b j g f.has_words.allowed)
same_fault text a b i j (inr (inr (inr f))) (inr (inl g)) = absurd (words_apart text b j f.found g.fault f.has_words)
same_fault text a b i j (inr (inr (inr f))) (inr (inr (inl g))) = absurd (units_apart text b j f.found g.1 f.has_words f.viable)
same_fault text a b i j (inr (inr (inr f))) (inr (inr (inr g))) = one_end text a b i j f g

pub one_first_fault : (text : List ℕ) (a b : TextFault) → IsFirstFault text a → IsFirstFault text b → a ≡ b
one_first_fault text a b f g = grind (arith, common_steps, same_fault text a.number b.number a.at b.at (sorted text a.number a.at f) (sorted text b.number b.at g)) steps 200000

pub cut_has_no_fault : (text : List ℕ) (pieces : List (List ℕ)) (tail : List ℕ) (fault : TextFault) → IsCut text pieces tail → IsFirstFault text fault → ⊥
cut_has_no_fault text pieces tail fault f g = none (sorted text fault.number fault.at g) where
  all : HoldsWhole text
  all = cut_units text pieces tail f

  none : Sorted text fault.number fault.at → ⊥
  none (inl h) = bad_alone text fault.number fault.at h all.has_words.allowed
  none (inr (inl h)) = words_apart text fault.number fault.at all.found h.fault all.has_words
  none (inr (inr (inl h))) = units_apart text fault.number fault.at all.found h.1 all.has_words (run-IsViable (tokens_of text all.found) (m.Begin, 0) all.whole)
  none (inr (inr (inr h))) =
      let same : tokens_of text h.found ≡ tokens_of text all.found = ap (tokens_of text) (same_words (runs text) h.found all.found h.has_words.words_are all.has_words.words_are) in
      whole_has_no_fault (tokens_of text h.found) fault.number h.word (run-IsWhole (tokens_of text h.found) (ap (m.run m.Begin 0) same ∙ all.whole)) h.fault

-- ---- one cut

one_piece_more : (u v : Units) (more : List Token) → AreUnits true u → AreUnits true v → IsOneUnit u → IsOneUnit v → unit_tokens u ++ more ≡ unit_tokens v → more ≡ []
one_piece_more u v more f g one_u one_v e = by_unit u f one_u e where
  later : (w : Units) × AreUnits true w × (unit_tokens w ≡ more)
  later = run-IsWhole more (sym (ap (m.run m.Begin 0) (sym e) ∙ run-append (unit_tokens u) more m.Begin 0 (m.Begin, 0) (IsWhole-run (unit_tokens u)
      (u, f, refl))) ∙ IsWhole-run (unit_tokens v) (v, g, refl))

  by_unit : (u : Units) → AreUnits true u → IsOneUnit u → unit_tokens u ++ more ≡ unit_tokens v → more ≡ []
  by_unit Nothing are one same = absurd one
  by_unit (Simple shape rest) are one same =
      let tokens : unit_tokens (Simple shape later.0) ≡ unit_tokens v = grind (arith, common_steps, append-nil, later, more) steps 200000 in
      (sym later.2 ∙ ap unit_tokens (subst IsOneUnit (sym (one_division (Simple shape later.0) v (are.0, later.1) g tokens)) one_v))
  by_unit (Block begin inner end rest) are one same =
      let tokens : unit_tokens (Block begin inner end later.0) ≡ unit_tokens v = grind (arith, common_steps, append_assoc, later, more) steps 200000 in
      (sym later.2 ∙ ap unit_tokens (subst IsOneUnit (sym (one_division (Block begin inner end later.0) v (are.0, are.1, are.2, later.1) g tokens)) one_v))

end_within : (text : List ℕ) (at : ℕ) (ws : List Word) → Lying text at ws → end_of_words ws ≤ length text
end_within text at [] h = omega arith
end_within text at (w ∷ []) h = h.1.within
end_within text at (w ∷ v ∷ ws) h = end_within text (w.end + 1) (v ∷ ws) h.2

passes_at : (xs ys : List ℕ) (z : ℕ) → AllPass is_white (xs ++ z ∷ ys) → is_white z ≡ true
passes_at xs ys z h = grind (arith, length-append xs (z ∷ ys), get_or-append_right xs (z ∷ ys) (length xs) (length xs) z refl (omega arith)) steps 200000

no_words_left : (text : List ℕ) (us : List Word) → tokens_of text us ≡ [] → us ≡ []
no_words_left text [] e = refl
no_words_left text (w ∷ us) e = absurd cc

-- a piece is no longer than another that begins with it, if that is not followed by white space
no_longer : (p zs rest : List ℕ) → IsPiece p → IsPiece (p ++ zs) → BeginsSolid (zs ++ rest) → zs ≡ []
no_longer p [] rest f g solid = refl
no_longer p (z ∷ zs) rest f g solid = absurd (false≢true (sym solid ∙ passes_at (drop (end_of_words f.unit.words) p) zs z
    (subst (λ (bs : List ℕ). AllPass is_white bs) (ap (λ (ws : List Word). drop (end_of_words ws) (p ++ z ∷ zs)) same ∙ drop-append-le (end_of_words f.unit.words) p
    (z ∷ zs) (end_within p 0 f.unit.words (grind (arith, common_steps, words_lie) steps 200000))) g.white))) where
      more : (us : List Word) × (g.unit.words ≡ f.unit.words ++ us)
      more = more_found (runs p) (map (shift_run (length p)) (runs (z ∷ zs))) f.unit.words g.unit.words f.unit.has_words.words_are (subst (λ (rs : List Run). AreWords rs g.unit.words) (runs_joined p (z ∷ zs) f.unit.ends) g.unit.has_words.words_are)

      same : g.unit.words ≡ f.unit.words
      same = more.1 ∙ ap (λ (us : List Word). f.unit.words ++ us) (no_words_left (p ++ z ∷ zs) more.0 (one_piece_more f.unit.units g.unit.units
          (tokens_of (p ++ z ∷ zs) more.0) f.unit.are_units g.unit.are_units f.unit.one g.unit.one (ap (λ (ts : List Token). ts ++ tokens_of (p ++ z ∷ zs) more.0) (f.unit.spells
          ∙ sym (tokens-front p (z ∷ zs) f.unit.words 0 (grind (arith, common_steps, words_lie) steps 200000)))
          ∙ sym (map-append (token_of (p ++ z ∷ zs)) f.unit.words more.0) ∙ ap (tokens_of (p ++ z ∷ zs)) (sym more.1) ∙ sym g.unit.spells))) ∙ append-nil f.unit.words

-- a text with a unit has words
piece_no_tail : (piece rest tail : List ℕ) (found : List Word) → IsPiece piece → HasWords rest found → HasWords tail [] → tail ≡ piece ++ rest → ⊥
piece_no_tail piece rest tail found f g h is = by_units f.unit.units f.unit.one (f.unit.spells ∙ ap (tokens_of piece) (empty f.unit.words (map (shift_word (length piece)) found)
    (same_words (runs tail) [] (f.unit.words ++ map (shift_word (length piece)) found) h.words_are
    (subst (λ (bs : List ℕ). AreWords (runs bs) (f.unit.words ++ map (shift_word (length piece)) found)) (sym is) (join_words piece rest f.unit.words found f.unit.ends
    f.unit.has_words g).words_are)))) where
      empty : (ws vs : List Word) → [] ≡ ws ++ vs → ws ≡ []
      empty [] vs e = refl
      empty (w ∷ ws) vs e = absurd cc

      by_units : (u : Units) → IsOneUnit u → unit_tokens u ≡ [] → ⊥
      by_units p0 p1 p2 = grind (arith, common_steps) steps 200000

same_pieces : (ps qs : List (List ℕ)) (s t : List ℕ) → concat ps ++ s ≡ concat qs ++ t → ArePieces ps s → ArePieces qs t → (ps ≡ qs) × (s ≡ t)
same_pieces [] [] s t e f g = (refl, e)
same_pieces [] (q ∷ qs) s t e f g = let rest = pieces_words qs t g.2 in absurd (piece_no_tail q (concat qs ++ t) s rest.found g.0 rest.has_words f (e ∙ append_assoc q (concat qs) t))
same_pieces (p ∷ ps) [] s t e f g = let rest = pieces_words ps s f.2 in absurd (piece_no_tail p (concat ps ++ s) t rest.found f.0 rest.has_words g (sym e ∙ append_assoc p (concat ps) s))
same_pieces (p ∷ ps) (q ∷ qs) s t e f g = by_cut (cut_twice p (concat ps ++ s) q (concat qs ++ t)
    (grind (arith, common_steps, append_assoc p (concat ps) s, append_assoc q (concat qs) t) steps 200000)) (λ rest. same_pieces ps qs s t rest f.2 g.2) where
      alike : p ≡ q → ((concat ps ++ s ≡ concat qs ++ t) → (ps ≡ qs) × (s ≡ t)) → (p ∷ ps ≡ q ∷ qs) × (s ≡ t)
      alike same more = grind (arith, common_steps, append_assoc, append_cancel_left) steps 200000

      by_cut : ((zs : List ℕ) × (p ≡ q ++ zs) × (zs ++ (concat ps ++ s) ≡ concat qs ++ t)) ⊎ ((zs : List ℕ) × (q ≡ p ++ zs) × (concat ps ++ s ≡ zs ++ (concat qs ++ t)))
          → ((concat ps ++ s ≡ concat qs ++ t) → (ps ≡ qs) × (s ≡ t)) → (p ∷ ps ≡ q ∷ qs) × (s ≡ t)
      by_cut (inl h) more =
          let none : h.0 ≡ [] = no_longer q h.0 (concat ps ++ s) g.0 (subst IsPiece h.1 f.0) (subst BeginsSolid (sym h.2) g.1) in
          alike (h.1 ∙ ap (λ (zs : List ℕ). q ++ zs) none ∙ append-nil q) more
      by_cut (inr h) more = alike (sym (h.1 ∙ ap (λ (zs : List ℕ). p ++ zs) (no_longer p h.0 (concat qs ++ t) f.0 (subst IsPiece h.1 g.0) (subst BeginsSolid h.2 f.1)) ∙ append-nil p)) more

pub one_cut : (text : List ℕ) (ps qs : List (List ℕ)) (s t : List ℕ) → IsCut text ps s → IsCut text qs t → (ps ≡ qs) × (s ≡ t)
one_cut text ps qs s t f g = same_pieces ps qs s t (f.joined ∙ sym g.joined) f.are_pieces g.are_pieces

-- ---- a cut with one piece

-- a piece, and after it bytes without a word: the same words
tokens_front : (piece tail : List ℕ) (h : IsPiece piece) → tokens_of (piece ++ tail) h.unit.words ≡ tokens_of piece h.unit.words
tokens_front piece tail h = tokens-front piece tail h.unit.words 0 (words_lie piece h.unit.words h.unit.has_words)

holds_front : (piece tail : List ℕ) → IsPiece piece → HasWords tail [] → ends_white (piece ++ tail) ≡ true → HoldsOneUnit (piece ++ tail)
holds_front piece tail h none ends =
    grind (arith, common_steps, tokens_front piece tail h, append-nil h.unit.words, join_words piece tail h.unit.words [] h.unit.ends h.unit.has_words none) steps 200000

module _ (text piece tail : List ℕ) (h : IsCut text (piece ∷ []) tail) where
  joined : piece ++ tail ≡ ended text
  joined = ap (λ (bs : List ℕ). bs ++ tail) (sym (append-nil piece)) ∙ h.joined

  pub one_unit_of_cut : HoldsOneUnit (ended text)
  one_unit_of_cut = subst HoldsOneUnit joined (holds_front piece tail h.are_pieces.0 h.are_pieces.2 (subst (λ (bs : List ℕ). ends_white bs ≡ true) (sym joined)
      (grind (arith, common_steps, cases_Bool (ends_white text), ends_behind text [] 10, feed_white) steps 200000)))

  pub units_of_cut : (units : Units) → HasUnits (ended text) units → HasUnits piece units
  units_of_cut units has =
      let whole : HasUnits (piece ++ tail) units = subst (λ (bs : List ℕ). HasUnits bs units) (sym joined) has in
      let own : IsPiece piece = h.are_pieces.0 in
      let words : HasWords (piece ++ tail) own.unit.words =
      grind (arith, common_steps, join_words piece tail own.unit.words [] own.unit.ends own.unit.has_words h.are_pieces.2) steps 200000 in
      let same : whole.words ≡ own.unit.words = one_words (piece ++ tail) whole.words own.unit.words whole.has_words words in
      let spells = whole.spells ∙ ap (tokens_of (piece ++ tail)) same ∙ tokens_front piece tail own in
      record { words = own.unit.words; has_words = own.unit.has_words; are_units = whole.are_units; spells = spells }
