-- What the loop of `cut` keeps.
use Rattle.std.proofs.Common.{[], ◌≡◌, ◌≢◌, ◌⊎◌, ℕ, ◌+◌, ◌-◌, ◌<◌, ◌≤◌, true, inl, inr, List, ◌∷◌, ◌++◌, append_assoc, map, length, take, drop, None, Ok, Err, refl, sym, ap, ◌∙◌, subst, ⊎_elim, arith}
use Rattle.std.proofs.{Common.{slice_range}, lemmas.{Grind.{common_steps}, Bool.{cases_lt}}}
use Rattle.std.proofs.lemmas.List.{append-nil, map-append, take-append-drop, take-append-le, length-append, length-map, length-take-le, take_all, nil_from_length, Folds.{concat-append}}
use Rattle.std.{proofs.Math.Seq.{take-append-add}, specs.List.{concat, prefix_len}}
use Rattle.mm_text.specs.{declared.{word.Word.{Word}, fault.TextNumber.{TextNumber, TheVariants.{T07, T08}}}, Language.Run.{Run, runs, runs_from, is_white}}
use Rattle.mm_text.specs.Language.{Reading.{AreWords, HasWords, LiesIn, first_bad}, Unit.{Token, token_of, tokens_of}, Cut.{ended, IsPiece, BeginsSolid, ArePieces, IsCut, IsFirstFaultAt}}
use Rattle.mm_text.{specs.Code.{Grammar.{first_behind, blocks_behind, is_within}, Reader.{runs_at, TakesWord, FailsBehind, SkipsPlain}}, proofs.LayoutLemmas.{laid_out}}
use Rattle.mm_text.proofs.{PositionLemmas.{Standing, standing_front, Lying, runs_stand, parts_lie}, ReadingLemmas.{none_read}, ReaderLemmas.{words-append, fails_more, first_of_words}}
use Rattle.mm_text.proofs.{SkipLemmas.{plain_words, are_plain_words, plain_tokens}, UnitReadingLemmas.{run-append, run-IsViable}}
use Rattle.mm_text.proofs.GrammarLemmas.{Stands, stands_none, stands_more, stands_plain, stands_unit, stands_block, plain_run, is_no_begin, first_of_units}
use Rattle.mm_text.proofs.PieceLemmas.{shift_word, runs-shift, words_unshift, runs-ended}
use Rattle.mm_text.proofs.PieceUnitLemmas.{allowed-ended, allowed_rest, solid_ended, WholeRun, white_within, rest_solid, rest_ended, runs_behind, piece_is}
use Rattle.mm_text.specs.Code.UnitReading as m

-- ---- where words are

lying_last : (text : List ℕ) (at : ℕ) (ws : List Word) (word : Word) → Lying text at (ws ++ word ∷ []) → (at ≤ word.start) × LiesIn text word
lying_last text at [] word h = (h.0, h.1)
lying_last text at (w ∷ ws) word h = let more = lying_last text (w.end + 1) ws word h.2 in (omega (arith, h.0, h.1.some, more.0), more.1)

-- ---- the pieces so far

pub record Gathers (text : List ℕ) (pieces : List (List ℕ)) (rest : List ℕ) : Type 0 where
  pub joined : concat pieces ++ ended rest ≡ ended text
  pub are : (more : List (List ℕ)) (tail : List ℕ) → concat more ++ tail ≡ ended rest → ArePieces more tail → ArePieces (pieces ++ more) tail

gathers_more : (text : List ℕ) (pieces : List (List ℕ)) (rest piece next : List ℕ) → Gathers text pieces rest → ended rest ≡ piece ++ ended next → IsPiece piece → BeginsSolid (ended next) → Gathers text (pieces ++ piece ∷ []) next
gathers_more text pieces rest piece next g split is solid = grind (arith, common_steps, concat-append pieces (piece ∷ []), append-nil piece, g.are) steps 200000

-- ---- the text so far

-- pieces up to the byte `from`, words up to the byte `at`
pub record Progress (text : List ℕ) (pieces : List (List ℕ)) (from at : ℕ) (phase : m.Phase) (first : ℕ) (blocks : List ℕ) : Type 0 where
  pub front : List Run
  pub since : List Run
  pub before : List Word
  pub part : List Word
  pub at_from : runs text ≡ front ++ runs_at text from
  pub at_now : runs_at text from ≡ since ++ runs_at text at
  pub reads_before : AreWords front before
  pub reads_part : AreWords since part
  pub whole_before : WholeRun (tokens_of text before)
  pub stands : Stands (tokens_of text (before ++ part)) phase first blocks
  pub inner : (n : ℕ) → 0 < n → n ≤ length (tokens_of text part) → ¬ WholeRun (take n (tokens_of text part))
  pub within : from ≤ length text
  pub gathers : Gathers text pieces (drop from text)

pub progress_start : (text : List ℕ) (first : ℕ) → Progress text [] 0 0 m.Begin first []
progress_start text first = grind (arith, common_steps, stands_none first, none_read) steps 200000

module _ (text : List ℕ) (pieces : List (List ℕ)) (from at : ℕ) (phase : m.Phase) (first : ℕ) (blocks : List ℕ) (h : Progress text pieces from at phase first blocks) where
  runs_so_far : runs text ≡ (h.front ++ h.since) ++ runs_at text at
  runs_so_far = h.at_from ∙ ap (λ (rs : List Run). h.front ++ rs) h.at_now ∙ sym (append_assoc h.front h.since (runs_at text at))

  words_so_far : AreWords (h.front ++ h.since) (h.before ++ h.part)
  words_so_far = words-append h.front h.since h.before h.part h.reads_before h.reads_part

  -- the words after the pieces are read as from the beginning
  part_state : (part : List Word) (s : m.Phase × ℕ) → m.run m.Begin 0 (tokens_of text (h.before ++ part)) ≡ Ok s → m.run m.Begin 0 (tokens_of text part) ≡ Ok s
  part_state part s e = sym (ap (m.run m.Begin 0) (map-append (token_of text) h.before part) ∙ run-append (tokens_of text h.before) (tokens_of text part) m.Begin 0 (m.Begin, 0) h.whole_before) ∙ e

  -- ---- the end

  pub words_fault : (number : TextNumber) (place : ℕ) → first_bad text ≡ None → FailsBehind (runs_at text at) [] number place → IsFirstFaultAt text number place
  words_fault number place allowed fails =
      let all : FailsBehind ((h.front ++ h.since) ++ runs_at text at) ((h.before ++ h.part) ++ []) number place = fails_more (h.front ++ h.since) (runs_at text at) (h.before ++ h.part) [] number place words_so_far fails in
      let at_text : FailsBehind (runs text) (h.before ++ h.part) number place =
      subst (λ (rs : List Run). FailsBehind rs (h.before ++ h.part) number place) (sym runs_so_far) (subst (λ (ws : List Word). FailsBehind ((h.front ++ h.since) ++ runs_at text at) ws number place) (append-nil (h.before ++ h.part)) all) in
      first_of_words text (h.before ++ h.part) number place allowed (run-IsViable (tokens_of text (h.before ++ h.part)) (phase, length blocks) h.stands.state) at_text

  all_words : first_bad text ≡ None → AreWords (runs_at text at) [] → HasWords text (h.before ++ h.part)
  all_words allowed none = record {
    allowed = allowed;
    words_are = subst (λ (rs : List Run). AreWords rs (h.before ++ h.part)) (sym runs_so_far)
        (subst (λ (ws : List Word). AreWords ((h.front ++ h.since) ++ runs_at text at) ws) (append-nil (h.before ++ h.part)) (words-append (h.front ++ h.since) (runs_at text at) (h.before ++ h.part) [] words_so_far none));
  }

  pub unit_end : first_bad text ≡ None → AreWords (runs_at text at) [] → phase ≢ m.Begin → IsFirstFaultAt text T07 first
  unit_end allowed none other =
      grind (arith, common_steps, all_words allowed none, stands_unit (tokens_of text (h.before ++ h.part)) phase first blocks h.stands other) steps 200000

  pub block_end : (outer : List ℕ) (place : ℕ) → first_bad text ≡ None → AreWords (runs_at text at) [] → phase ≡ m.Begin → blocks ≡ outer ++ place ∷ [] → IsFirstFaultAt text T08 place
  block_end outer place allowed none is open_ones =
      let stands : Stands (tokens_of text (h.before ++ h.part)) m.Begin first (outer ++ place ∷ []) =
      subst (λ (bs : List ℕ). Stands (tokens_of text (h.before ++ h.part)) m.Begin first bs) open_ones (subst (λ (p : m.Phase). Stands (tokens_of text (h.before ++ h.part)) p first blocks) is h.stands) in
      let e = stands_block (tokens_of text (h.before ++ h.part)) first outer place stands in
      record { found = h.before ++ h.part; has_words = all_words allowed none; word = e.0; token = e.1; ends = e.2; there = e.3; place = e.4 }

  part_none : phase ≡ m.Begin → blocks ≡ [] → (part : List Word) → h.part ≡ part → part ≡ []
  part_none is none [] e = refl
  part_none is none (word ∷ part) e =
      let tokens = tokens_of text h.part in
      let state : m.run m.Begin 0 (tokens_of text h.part) ≡ Ok (m.phase_state phase (length blocks)) = part_state h.part (phase, length blocks) h.stands.state in
      let whole : WholeRun (tokens_of text h.part) = state ∙ ap (λ (p : m.Phase). Ok (m.phase_state p (length blocks))) is ∙ ap (λ (bs : List ℕ). Ok (m.phase_state m.Begin (length bs))) none in
      let long : length (tokens_of text h.part) ≡ length h.part = length-map h.part (token_of text) in
      let some : length h.part ≡ length (word ∷ part) = ap length e in
      absurd (h.inner (length tokens) (omega arith) (omega arith) (ap (m.run m.Begin 0) (take_all (length tokens) tokens (omega arith)) ∙ whole))

  no_words : AreWords (runs_at text from) [] → first_bad text ≡ None → HasWords (ended (drop from text)) []
  no_words none allowed =
      let place : from ≡ from + 0 = omega arith in
      let words = words_unshift from (runs (drop from text)) [] (subst (λ (rs : List Run). AreWords rs []) (ap (λ (n : ℕ). (runs_from n (drop from text)))
      place ∙ runs-shift from 0 (drop from text)) none) in
      record {
        allowed = allowed-ended (drop from text) (allowed_rest text from allowed);
        words_are = subst (λ (rs : List Run). AreWords rs []) (sym (runs-ended 0 (drop from text))) (subst (λ (ws : List Word). AreWords (runs (drop from text)) ws) (is_none words.0 words.2) words.1);
      } where
        is_none : (ws : List Word) → [] ≡ map (shift_word from) ws → ws ≡ []
        is_none [] e = refl
        is_none (w ∷ ws) e = absurd cc

  pub cut_end : first_bad text ≡ None → AreWords (runs_at text at) [] → phase ≡ m.Begin → blocks ≡ [] → IsCut text pieces (ended (drop from text))
  cut_end allowed none is no_open = record {
    joined = h.gathers.joined;
    are_pieces = subst (λ (ps : List (List ℕ)). ArePieces ps (ended (drop from text))) (append-nil pieces) (h.gathers.are [] (ended (drop from text)) refl
        (no_words
        (grind (arith, common_steps, part_none is no_open h.part refl, words-append h.since (runs_at text at) h.part [] h.reads_part none) steps 200000)
        allowed));
  }

  -- ---- plain words inside a statement

  module _ (to : ℕ) (s : SkipsPlain text at to) (inside : is_within phase ≡ true) where
    abbrev words_skipped : List Word
    words_skipped = plain_words s.inside

    tokens_skipped : tokens_of text (h.part ++ words_skipped) ≡ tokens_of text h.part ++ tokens_of text words_skipped
    tokens_skipped = map-append (token_of text) h.part words_skipped

    runs_skipped : (n : ℕ) → length (tokens_of text h.part) ≤ n → m.run m.Begin 0 (take n (tokens_of text (h.part ++ words_skipped))) ≡ Ok (m.phase_state phase (length blocks))
    runs_skipped n le =
        let count : length (tokens_of text h.part) + (n - length (tokens_of text h.part)) ≡ n = omega arith in
        ap (λ (ts : List Token). m.run m.Begin 0 (take n ts)) tokens_skipped
        ∙ ap (λ (k : ℕ). m.run m.Begin 0 (take k (tokens_of text h.part ++ tokens_of text words_skipped))) (sym count)
        ∙ ap (m.run m.Begin 0) (take-append-add (tokens_of text h.part) (tokens_of text words_skipped) (n - length (tokens_of text h.part)))
        ∙ run-append (tokens_of text h.part) (take (n - length (tokens_of text h.part)) (tokens_of text words_skipped)) m.Begin 0 (phase, length blocks) (part_state h.part (phase, length blocks) h.stands.state)
        ∙ plain_run phase (length blocks) inside (tokens_of text words_skipped) (plain_tokens text s.inside) (n - length (tokens_of text h.part))

    inner_skipped : (n : ℕ) → 0 < n → (n ≤ length (tokens_of text h.part)) ⊎ (length (tokens_of text h.part) ≤ n) → ¬ WholeRun (take n (tokens_of text (h.part ++ words_skipped)))
    inner_skipped n some (inl less) whole = h.inner n some less (ap (m.run m.Begin 0) (sym (ap (take n) tokens_skipped ∙ take-append-le n (tokens_of text h.part) (tokens_of text words_skipped) less)) ∙ whole)
    inner_skipped n some (inr more) whole =
        let same : m.phase_state phase (length blocks) ≡ m.phase_state m.Begin 0 =
        let a : m.run m.Begin 0 (take n (tokens_of text (h.part ++ words_skipped))) ≡ Ok (m.phase_state phase (length blocks)) = runs_skipped n more in
        cc in
        is_no_begin phase inside (ap (λ (s : m.Phase × ℕ). s.0) same)

    tokens_all : tokens_of text (h.before ++ h.part) ++ tokens_of text words_skipped ≡ tokens_of text (h.before ++ (h.part ++ words_skipped))
    tokens_all = sym (map-append (token_of text) (h.before ++ h.part) words_skipped) ∙ ap (tokens_of text) (append_assoc h.before h.part words_skipped)

    pub progress_skip : Progress text pieces from to phase first blocks
    progress_skip = record {
      front = h.front;
      since = h.since ++ s.inside;
      before = h.before;
      part = h.part ++ words_skipped;
      at_from = h.at_from;
      at_now = h.at_now ∙ ap (λ (rs : List Run). h.since ++ rs) s.joined ∙ sym (append_assoc h.since s.inside (runs_at text to));
      reads_before = h.reads_before;
      reads_part = words-append h.since s.inside h.part words_skipped h.reads_part (are_plain_words s.inside s.plain);
      whole_before = h.whole_before;
      stands = subst (λ (ts : List Token). Stands ts phase first blocks) tokens_all (stands_plain (tokens_of text (h.before ++ h.part)) (tokens_of text words_skipped) phase first blocks inside (plain_tokens text s.inside) h.stands);
      inner = λ n some less. inner_skipped n some (⊎_elim (λ above. inr (omega (arith, above))) (λ below. inl below) (cases_lt (length (tokens_of text h.part)) n));
      within = h.within;
      gathers = h.gathers;
    }

  -- ---- one more word

  module _ (word : Word) (to : ℕ) (taken : TakesWord text at word to) where
    abbrev more_runs : List Run
    more_runs = h.since ++ taken.taken

    abbrev more_words : List Word
    more_words = h.part ++ word ∷ []

    at_next : runs_at text from ≡ more_runs ++ runs_at text to
    at_next = h.at_now ∙ ap (λ (rs : List Run). h.since ++ rs) taken.joined ∙ sym (append_assoc h.since taken.taken (runs_at text to))

    reads_more : AreWords more_runs more_words
    reads_more = words-append h.since taken.taken h.part (word ∷ []) h.reads_part taken.reads

    runs_next : runs text ≡ (h.front ++ more_runs) ++ runs_at text to
    runs_next = h.at_from ∙ ap (λ (rs : List Run). h.front ++ rs) at_next ∙ sym (append_assoc h.front more_runs (runs_at text to))

    reads_next : AreWords (h.front ++ more_runs) (h.before ++ more_words)
    reads_next = words-append h.front more_runs h.before more_words h.reads_before reads_more

    pub word_lies : (from ≤ word.start) × LiesIn text word
    word_lies = let all : Standing text from (runs_at text from) = runs_stand text (take from text) (drop from text) from (runs_at text from)
        (sym (take-append-drop from text)) (sym (length-take-le from text h.within)) (laid_out from (drop from text)) in
        lying_last text from h.part word (subst (Lying text from) reads_more.singles (parts_lie text from reads_more.parts reads_more.each
        (subst (Standing text from) (sym reads_more.joined) (standing_front text from more_runs (runs_at text to)
        (subst (Standing text from) at_next all)))))

    tokens_next : tokens_of text (h.before ++ h.part) ++ token_of text word ∷ [] ≡ tokens_of text (h.before ++ more_words)
    tokens_next = sym (map-append (token_of text) (h.before ++ h.part) (word ∷ [])) ∙ ap (tokens_of text) (append_assoc h.before h.part (word ∷ []))

    pub units_fault : (number : TextNumber) → first_bad text ≡ None → m.next phase (length blocks) word.kind (m.could_label (token_of text word)) ≡ Err number → IsFirstFaultAt text number word.start
    units_fault number allowed refused =
        first_of_units text (h.before ++ h.part) word (h.front ++ more_runs) (runs_at text to) phase (length blocks) number allowed runs_next
        (subst (λ (ws : List Word). AreWords (h.front ++ more_runs) ws) (sym (append_assoc h.before h.part (word ∷ []))) reads_next) h.stands.state refused

    module _ (next : m.Phase) (depth : ℕ) (step : m.next phase (length blocks) word.kind (m.could_label (token_of text word)) ≡ Ok (m.phase_state next depth)) where
      abbrev next_first : ℕ
      next_first = first_behind phase first word.start

      abbrev next_blocks : List ℕ
      next_blocks = blocks_behind word.kind blocks word.start

      stands_next : Stands (tokens_of text (h.before ++ more_words)) next next_first next_blocks
      stands_next = subst (λ (ts : List Token). Stands ts next next_first next_blocks) tokens_next (stands_more (tokens_of text (h.before ++ h.part)) phase first blocks h.stands (token_of text word) next depth step)

      part_next : m.run m.Begin 0 (tokens_of text more_words) ≡ Ok (m.phase_state next (length next_blocks))
      part_next = part_state more_words (next, length next_blocks) stands_next.state

      long : length (tokens_of text more_words) ≡ length (tokens_of text h.part) + 1
      long = ap length (map-append (token_of text) h.part (word ∷ [])) ∙ length-append (tokens_of text h.part) (token_of text word ∷ [])

      inner_next : (n : ℕ) → 0 < n → n ≤ length (tokens_of text h.part) → ¬ WholeRun (take n (tokens_of text more_words))
      inner_next n some less whole = h.inner n some less (ap (m.run m.Begin 0) (sym (ap (take n) (map-append (token_of text) h.part (word ∷ [])) ∙ take-append-le n (tokens_of text h.part) (token_of text word ∷ []) less)) ∙ whole)

      pub progress_more : ¬ ((next ≡ m.Begin) × (next_blocks ≡ [])) → Progress text pieces from to next next_first next_blocks
      progress_more on = record {
        front = h.front;
        since = more_runs;
        before = h.before;
        part = more_words;
        at_from = h.at_from;
        at_now = at_next;
        reads_before = h.reads_before;
        reads_part = reads_more;
        whole_before = h.whole_before;
        stands = stands_next;
        inner = λ n some less. ⊎_elim (λ above. all n (omega (arith, long))) (λ below. inner_next n some below) (cases_lt (length (tokens_of text h.part)) n);
        within = h.within;
        gathers = h.gathers;
      } where
        all : (n : ℕ) → length (tokens_of text more_words) ≤ n → ¬ WholeRun (take n (tokens_of text more_words))
        all n le whole =
            let same : m.phase_state next (length next_blocks) ≡ m.phase_state m.Begin 0 =
            let a : m.run m.Begin 0 (tokens_of text more_words) ≡ Ok (m.phase_state m.Begin 0) = ap (m.run m.Begin 0) (sym (take_all n (tokens_of text more_words) le))
            ∙ whole in let b : m.run m.Begin 0 (tokens_of text more_words) ≡ Ok (m.phase_state next (length next_blocks)) = part_next in cc in
            on (ap (λ (s : m.Phase × ℕ). s.0) same, nil_from_length next_blocks (ap (λ (s : m.Phase × ℕ). s.1) same))

      pub progress_piece : first_bad text ≡ None → to ≤ length text → next ≡ m.Begin → next_blocks ≡ []
          → Progress text (pieces ++ ended (slice_range text from (to + prefix_len is_white (drop to text))) ∷ []) (to + prefix_len is_white (drop to text)) to next next_first next_blocks
      progress_piece allowed most is none = record {
        front = h.front ++ more_runs;
        since = [];
        before = h.before ++ more_words;
        part = [];
        at_from = runs_next ∙ ap (λ (rs : List Run). (h.front ++ more_runs) ++ rs) (runs_behind text from to more_runs h.part word allowed le most at_next
            reads_more (sym taken.next) taken.ends);
        at_now = sym (runs_behind text from to more_runs h.part word allowed le most at_next reads_more (sym taken.next) taken.ends);
        reads_before = reads_next;
        reads_part = none_read;
        whole_before = stands_next.state ∙ (grind (arith, common_steps) steps 200000);
        stands = subst (λ (ws : List Word). Stands (tokens_of text ws) next next_first next_blocks) (sym (append-nil (h.before ++ more_words))) stands_next;
        inner = λ n some less. absurd (omega arith);
        within = white_within text from to more_runs h.part word allowed le most at_next reads_more (sym taken.next) taken.ends;
        gathers = gathers_more text pieces (drop from text) (ended (slice_range text from (to + prefix_len is_white (drop to text)))) (drop (to + prefix_len is_white (drop to text)) text) h.gathers
            (rest_ended text from to more_runs h.part word allowed le most at_next reads_more (sym taken.next) taken.ends)
            (piece_is text from to more_runs h.part word allowed le most at_next reads_more (sym taken.next) taken.ends (part_next
            ∙ (grind (arith, common_steps) steps 200000)) (λ n some less. inner_next n some (omega (arith, long))))
            (solid_ended (drop (to + prefix_len is_white (drop to text)) text) (rest_solid text from to more_runs h.part word allowed le most at_next reads_more (sym taken.next) taken.ends));
      } where
        le : from ≤ to
        le = let lies = word_lies in omega (arith, lies.0, taken.some, taken.next)
