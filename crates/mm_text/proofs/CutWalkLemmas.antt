-- Each text has its cut or its first fault: what `cut` does, without its code.
use Rattle.std.proofs.Common.{[], ◌≡◌, ◌≢◌, ◌⊎◌, ℕ, zero, suc, ◌+◌, ◌-◌, ◌<◌, ◌≤◌, List, ◌∷◌, ◌++◌, length, take, drop, Option, Some, None, Ok, Err, refl, sym, ap, ◌∙◌, inl, inr, arith, slice_range}
use Rattle.std.{proofs.lemmas.{Grind.{common_steps}, Bool.{cases_Bool, false≢true}, List.{take_rest, length-drop, Sums.{prefix_len-le-length}}}, specs.{List.{prefix_len}, Str.{bytes_eq}}}
use Rattle.mm_text.specs.declared.{reader.Span.{Span}, word.{Word.{Word}, WordKind.{WordKind}}, fault.{TextFault.{TextFault}, TextNumber.{TextNumber, TheVariants.{T01, T02, T03, T04, T05, T07, T08}}}}
use Rattle.mm_text.specs.Language.{Run.{is_white, is_solid}, Spelling.{opening, closing}, Reading.{AreWords, first_bad}, Unit.{token_of}, Cut.{ended, IsCut, IsFirstFault}}
use Rattle.mm_text.specs.Code.{LeftToRight.{word_kind, holds_mark, words_fault_at}, Grammar.{first_behind, blocks_behind}}
use Rattle.mm_text.{specs.Code.Reader.{runs_at, TakesSpan, SkipsComment, FailsInside, TakesWord, FailsBehind}, proofs.{KindLemmas.{mark_stands, stands_mark}, RunLemmas.{no_run, white_at, takes_run}}}
use Rattle.mm_text.proofs.ReadingLemmas.{is_from, not_from}
use Rattle.mm_text.proofs.ReaderLemmas.{Skipping, skip_none, skip_more, skip_end, skip_fault, skip_open, Passing, pass_none, pass_end, pass_word, pass_close, pass_dollar, pass_comment, pass_fails}
use Rattle.mm_text.proofs.{UnitScanLemmas.{is_begin}, GrammarLemmas.{last_of}}
use Rattle.mm_text.proofs.CutLemmas.{Progress, progress_start, progress_more, progress_piece, words_fault, units_fault, unit_end, block_end, cut_end}
use Rattle.mm_text.specs.Code.UnitReading as m

-- ---- the next run

abbrev NextRun : List ℕ → ℕ → Type 0
NextRun text from = (span : Span) × (to : ℕ) × TakesSpan text from span to × (to ≤ length text)

run_by : (text : List ℕ) (from w n : ℕ) → w ≡ prefix_len is_white (take (length text - from) (drop from text)) → n ≡ prefix_len is_solid (take (length text - (from + w)) (drop (from + w) text)) → (runs_at text from ≡ []) ⊎ NextRun text from
run_by text from w zero w-is n-is = inl (no_run text from w 0 w-is n-is refl)
run_by text from w (suc n) w-is n-is = inr (_, from + w + suc n, takes_run text from (from + w) (suc n) (omega arith) (omega arith) (white_at text from w w-is) n-is, within) where
  within : from + w + suc n ≤ length text
  within = let most : suc n ≤ length text - (from + w) = grind (arith, common_steps, length-drop, prefix_len-le-length, take_rest) steps 200000 in omega arith

-- ---- the end of a comment

abbrev Skipped : List ℕ → ℕ → ℕ → Type 0
Skipped text from start = ((to : ℕ) × SkipsComment text from to × (from ≤ to) × (to ≤ length text)) ⊎ ((number : TextNumber) × (place : ℕ) × FailsInside (runs_at text from) start number place)

skip_step : (text : List ℕ) (from at start : ℕ) → from ≤ at → Skipping text from at → ((to : ℕ) → at < to → to ≤ length text → Skipping text from to → Skipped text from start) → Skipped text from start
skip_step text from at start le h go = by_run (grind (arith, common_steps, run_by) steps 200000) where
  by_run : (runs_at text at ≡ []) ⊎ NextRun text at → Skipped text from start
  by_run (inl none) = inr (T02, start, skip_open text from at start h none)
  by_run (inr (span, to, run, within)) =
      elim (cases_Bool (bytes_eq (slice_range text span.start span.end) closing)) [
        | inl closes ↦ inl (to, skip_end text from at span to h run (is_from (slice_range text span.start span.end) closing closes), omega (arith, run.begins, run.some, run.next), within)
        | inr no_close ↦ elim (cases_Bool (holds_mark (slice_range text span.start span.end))) [
          | inl mark ↦
              inr (T03, span.start, skip_fault text from at span to h run start (mark_stands (slice_range text span.start span.end) mark) (not_from (slice_range text span.start span.end) closing no_close))
          | inr none ↦
              go to (omega (arith, run.begins, run.some, run.next)) within (skip_more text from at span to h run (λ marked. false≢true (sym none ∙ stands_mark (slice_range text span.start span.end) marked)))
        ]
      ]

skip_from : (fuel : ℕ) (text : List ℕ) (from at start : ℕ) → length text ≤ at + fuel → from ≤ at → Skipping text from at → Skipped text from start
skip_from zero text from at start enough le h = skip_step text from at start le h (λ to more within g. absurd (omega arith))
skip_from (suc fuel) text from at start enough le h = skip_step text from at start le h (λ to more within g. skip_from fuel text from to start (omega arith) (omega arith) g)

-- ---- the next word

abbrev pub Given : List ℕ → ℕ → Type 0
Given text from = ((word : Word) × (to : ℕ) × TakesWord text from word to × (to ≤ length text)) ⊎ (AreWords (runs_at text from) [] ⊎ ((number : TextNumber) × (place : ℕ) × FailsBehind (runs_at text from) [] number place))

word_step : (text : List ℕ) (from at : ℕ) → from ≤ at → Passing text from at → ((to : ℕ) → at < to → to ≤ length text → Passing text from to → Given text from) → Given text from
word_step text from at le h go = by_run (grind (arith, common_steps, run_by) steps 200000) where
  by_kind : (span : Span) (to : ℕ) → TakesSpan text at span to → to ≤ length text → (slice_range text span.start span.end ≢ opening) → (slice_range text span.start span.end ≢ closing)
      → (kind : Option WordKind) → word_kind (slice_range text span.start span.end) ≡ kind → Given text from
  by_kind span to run within no_open no_close (Some kind) is = inl (record { kind = kind; start = span.start; end = span.end }, to, pass_word text from at span to h run kind is within le, within)
  by_kind span to run within no_open no_close None is = inr (inr (T05, span.start, pass_dollar text from at span to h run no_open no_close is))

  by_comment : (span : Span) (to : ℕ) → TakesSpan text at span to → slice_range text span.start span.end ≡ opening → Skipped text to span.start → Given text from
  by_comment span to run is (inl (end, skips, more, within)) = go end (omega (arith, run.begins, run.some, run.next)) within (pass_comment text from at span to h run end is skips)
  by_comment span to run is (inr (number, place, fails)) = inr (inr (number, place, pass_fails text from at span to h run number place is fails))

  by_run : (runs_at text at ≡ []) ⊎ NextRun text at → Given text from
  by_run (inl none) = inr (inl (pass_end text from at h none))
  by_run (inr (span, to, run, within)) =
      elim (cases_Bool (bytes_eq (slice_range text span.start span.end) opening)) [
        | inl opens ↦ by_comment span to run (is_from (slice_range text span.start span.end) opening opens) (skip_from (length text) text to to span.start (omega arith) (omega arith) (skip_none text to))
        | inr no_open ↦ elim (cases_Bool (bytes_eq (slice_range text span.start span.end) closing)) [
          | inl closes ↦ inr (inr (T04, span.start, pass_close text from at span to h run (is_from (slice_range text span.start span.end) closing closes)))
          | inr no_close ↦
              by_kind span to run within (not_from (slice_range text span.start span.end) opening no_open) (not_from (slice_range text span.start span.end) closing no_close) (word_kind (slice_range text span.start span.end)) refl
        ]
      ]

pub word_from : (fuel : ℕ) (text : List ℕ) (from at : ℕ) → length text ≤ at + fuel → from ≤ at → Passing text from at → Given text from
word_from zero text from at enough le h = word_step text from at le h (λ to more within g. absurd (omega arith))
word_from (suc fuel) text from at enough le h = word_step text from at le h (λ to more within g. word_from fuel text from to (omega arith) (omega arith) g)

-- ---- the whole text

abbrev pub CutOrFault : List ℕ → Type 0
CutOrFault text = ((pieces : List (List ℕ)) × (tail : List ℕ) × IsCut text pieces tail) ⊎ ((fault : TextFault) × IsFirstFault text fault)

module _ (text : List ℕ) (allowed : first_bad text ≡ None) where
  abbrev GoesOn : ℕ → Type 0
  GoesOn at = (pieces : List (List ℕ)) (from to : ℕ) (phase : m.Phase) (first : ℕ) (blocks : List ℕ) → at < to → to ≤ length text → Progress text pieces from to phase first blocks → CutOrFault text

  module _ (pieces : List (List ℕ)) (from at : ℕ) (phase : m.Phase) (first : ℕ) (blocks : List ℕ) (h : Progress text pieces from at phase first blocks) (go : GoesOn at) where
    at_end : AreWords (runs_at text at) [] → CutOrFault text
    at_end none = by_phase (is_begin phase) where
      by_blocks : phase ≡ m.Begin → (bs : List ℕ) → blocks ≡ bs → CutOrFault text
      by_blocks is [] e = inl (pieces, ended (drop from text), cut_end text pieces from at phase first blocks h allowed none is e)
      by_blocks is (b ∷ bs) e =
          let last = last_of blocks (let some : length blocks ≡ length (b ∷ bs) = ap length e in omega arith) in
          inr (words_fault_at T08 last.0, block_end text pieces from at phase first blocks h (take (length blocks - 1) blocks) last.0 allowed none is last.1)

      by_phase : (phase ≡ m.Begin) ⊎ (phase ≢ m.Begin) → CutOrFault text
      by_phase (inl is) = by_blocks is blocks refl
      by_phase (inr other) = inr (words_fault_at T07 first, unit_end text pieces from at phase first blocks h allowed none other)

    at_word : (word : Word) (to : ℕ) → TakesWord text at word to → to ≤ length text → CutOrFault text
    at_word word to taken within = by_step (m.next phase (length blocks) word.kind (m.could_label (token_of text word))) refl where
      onward : at < to
      onward = omega (arith, taken.begins, taken.some, taken.next)

      by_whole : (next : m.Phase) (depth : ℕ) → m.next phase (length blocks) word.kind (m.could_label (token_of text word)) ≡ Ok (m.phase_state next depth) → (next ≡ m.Begin) ⊎ (next ≢ m.Begin)
          → (bs : List ℕ) → blocks_behind word.kind blocks word.start ≡ bs → CutOrFault text
      by_whole next depth e (inl is) [] none =
          go (pieces ++ ended (slice_range text from (to + prefix_len is_white (drop to text))) ∷ []) (to + prefix_len is_white (drop to text)) to next (first_behind phase first word.start) (blocks_behind word.kind blocks word.start) onward within
          (progress_piece text pieces from at phase first blocks h word to taken next depth e allowed within is none)
      by_whole next depth e (inl is) (b ∷ bs) some =
          go pieces from to next (first_behind phase first word.start) (blocks_behind word.kind blocks word.start) onward within (progress_more text pieces from at phase first blocks h word to taken next depth e (λ whole. (cc)))
      by_whole next depth e (inr other) bs is =
          go pieces from to next (first_behind phase first word.start) (blocks_behind word.kind blocks word.start) onward within (progress_more text pieces from at phase first blocks h word to taken next depth e (λ whole. other whole.0))

      by_step : (step : m.UnitStep) → m.next phase (length blocks) word.kind (m.could_label (token_of text word)) ≡ step → CutOrFault text
      by_step (Ok s) e = by_whole s.0 s.1 e (is_begin s.0) (blocks_behind word.kind blocks word.start) refl
      by_step (Err number) e = inr (words_fault_at number word.start, units_fault text pieces from at phase first blocks h word to taken number allowed e)

    walk_step : CutOrFault text
    walk_step = by_given (word_from (length text) text at at (omega arith) (omega arith) (pass_none text at)) where
      by_given : Given text at → CutOrFault text
      by_given (inl (word, to, taken, within)) = at_word word to taken within
      by_given (inr (inl none)) = at_end none
      by_given (inr (inr (number, place, fails))) = inr (words_fault_at number place, words_fault text pieces from at phase first blocks h number place allowed fails)

  walk : (fuel : ℕ) (pieces : List (List ℕ)) (from at : ℕ) (phase : m.Phase) (first : ℕ) (blocks : List ℕ) → length text ≤ at + fuel → Progress text pieces from at phase first blocks → CutOrFault text
  walk zero pieces from at phase first blocks enough h = walk_step pieces from at phase first blocks h (λ ps f to p k bs more within g. absurd (omega arith))
  walk (suc fuel) pieces from at phase first blocks enough h = walk_step pieces from at phase first blocks h (λ ps f to p k bs more within g. walk fuel ps f to p k bs (omega arith) g)

pub cut_or_fault : (text : List ℕ) → CutOrFault text
cut_or_fault text = by_byte (first_bad text) refl where
  by_byte : (o : Option ℕ) → first_bad text ≡ o → CutOrFault text
  by_byte None e = walk text e (length text) [] 0 0 m.Begin 0 [] (omega arith) (progress_start text 0)
  by_byte (Some at) e = inr (words_fault_at T01 at, e)
