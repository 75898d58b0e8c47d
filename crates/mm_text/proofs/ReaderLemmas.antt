-- What the steps of a reader read, and the faults that they meet.
use Rattle.std.proofs.Common.{[], ◌≡◌, ◌≢◌, ℕ, ◌+◌, ◌-◌, ◌<◌, ◌≤◌, List, ◌∷◌, ◌++◌, append_assoc, length, take, drop, slice_range, Option, Some, None, Err, refl, sym, ap, ◌∙◌, subst, arith}
use Rattle.std.{proofs.{Common.{append-nil, length-take-le, length-drop}, lemmas.Grind.{common_steps}}, specs.List.{prefix_len}}
use Rattle.mm_text.proofs.ReadingLemmas.{read_behind, placed, none_read, Behind, in_comment, word_step, read_whole, stops, goes_on, not_whole, stop_fault}
use Rattle.mm_text.proofs.{KindLemmas.{kind_spelled, spelled_kind, no_kind, stands_mark}, RunLemmas.{front_is, takes_run}, ReadLemmas.{inside_mark, outside_close, outside_word}}
use Rattle.mm_text.specs.{declared.{reader.Span.{Span}, word.{Word.{Word}, WordKind.{WordKind}}, fault.TextNumber.{TextNumber, TheVariants.{T02, T03, T04, T05}}}, Language.Run.{Run, runs, is_solid}}
use Rattle.mm_text.specs.Language.{Spelling.{HoldsMark, opening, closing}, Reading.{AreWords, EndsInComment, EndsOpen, first_bad}, Cut.{StopsWords, IsFirstFaultAt}, Unit.{tokens_of, IsViable}}
use Rattle.mm_text.specs.Code.LeftToRight.{read_runs, cons_word, word_kind, words_fault_at}
use Rattle.mm_text.specs.Code.Reader.{runs_at, run_of, TakesSpan, SkipsComment, FailsInside, TakesWord, IsRunRefused, MeetsRun, FailsBehind, HoldNoMarks, HoldWords}
use Rattle.mm_text.specs.Language.Reading as words

-- ---- readings side by side

pub words-append : (a b : List Run) (ws vs : List Word) → AreWords a ws → AreWords b vs → AreWords (a ++ b) (ws ++ vs)
words-append a b ws vs f g = grind (arith, common_steps) steps 200000

pub comment-append : (a b : List Run) (ws vs : List Word) → AreWords a ws → EndsInComment b vs → EndsInComment (a ++ b) (ws ++ vs)
comment-append a b ws vs f g = grind (arith, common_steps, words-append a g.front ws vs f g.before) steps 200000

-- ---- in a comment

pub record Skipping (text : List ℕ) (from to : ℕ) : Type 0 where
  pub inside : List Run
  pub joined : runs_at text from ≡ inside ++ runs_at text to
  pub no_marks : HoldNoMarks inside

pub skip_none : (text : List ℕ) (from : ℕ) → Skipping text from from
skip_none text from = record { inside = []; joined = refl; no_marks = tt }

module _ (text : List ℕ) (from at : ℕ) (span : Span) (to : ℕ) (h : Skipping text from at) (run : TakesSpan text at span to) where
  onto : runs_at text from ≡ h.inside ++ run_of text span ∷ runs_at text to
  onto = h.joined ∙ ap (λ (rs : List Run). h.inside ++ rs) run.run

  pub skip_more : ¬ HoldsMark (run_of text span).bytes → Skipping text from to
  skip_more none = grind (arith, common_steps, append_assoc h.inside (run_of text span ∷ []) (runs_at text to)) steps 200000

  pub skip_end : (run_of text span).bytes ≡ closing → SkipsComment text from to
  skip_end closes = record { inside = h.inside; last = run_of text span; joined = onto; no_marks = h.no_marks; closed = closes }

  pub skip_fault : (start : ℕ) → HoldsMark (run_of text span).bytes → (run_of text span).bytes ≢ closing → FailsInside (runs_at text from) start T03 span.start
  skip_fault start holds differs = record { inside = h.inside; run = run_of text span; rest = runs_at text to; joined = onto; no_marks = h.no_marks; holds = holds; differs = differs; place = refl }

pub skip_open : (text : List ℕ) (from at start : ℕ) → Skipping text from at → runs_at text at ≡ [] → FailsInside (runs_at text from) start T02 start
skip_open text from at start h none = (subst (λ (rs : List Run). HoldNoMarks rs) (sym (append-nil h.inside) ∙ sym (h.joined ∙ ap (λ (rs : List Run). h.inside ++ rs) none)) h.no_marks, refl)

-- ---- outside comments

pub slice_length : (text : List ℕ) (from to : ℕ) → to ≤ length text → length (slice_range text from to) ≡ to - from
slice_length text from to le = length-take-le (to - from) (drop from text) (simp length-drop (omega arith))

pub record Passing (text : List ℕ) (from to : ℕ) : Type 0 where
  pub seen : List Run
  pub joined : runs_at text from ≡ seen ++ runs_at text to
  pub reads : AreWords seen []

pub pass_none : (text : List ℕ) (from : ℕ) → Passing text from from
pass_none text from = record { seen = []; joined = refl; reads = none_read }

pub pass_end : (text : List ℕ) (from at : ℕ) → Passing text from at → runs_at text at ≡ [] → AreWords (runs_at text from) []
pass_end text from at h none = grind (arith, common_steps) steps 200000

module _ (text : List ℕ) (from at : ℕ) (span : Span) (to : ℕ) (h : Passing text from at) (run : TakesSpan text at span to) where
  there : runs_at text from ≡ h.seen ++ run_of text span ∷ runs_at text to
  there = h.joined ∙ ap (λ (rs : List Run). h.seen ++ rs) run.run

  pub pass_word : (kind : WordKind) → word_kind (run_of text span).bytes ≡ Some kind → to ≤ length text → from ≤ at → TakesWord text from (record { kind = kind; start = span.start; end = span.end }) to
  pass_word kind is within le = record {
    taken = h.seen ++ run_of text span ∷ [];
    joined = there ∙ sym (append_assoc h.seen (run_of text span ∷ []) (runs_at text to));
    reads = word_step h.seen [] (run_of text span) (record { kind = kind; start = span.start; end = span.end }) h.reads
        (grind (arith, common_steps, kind_spelled, slice_length) steps 200000);
    here = run.here;
    is_word = grind (arith, common_steps, kind_spelled, slice_length) steps 200000;
    begins = omega (arith, run.begins);
    some = run.some;
    next = run.next;
    ends = run.ends;
  }

  pub pass_close : (run_of text span).bytes ≡ closing → FailsBehind (runs_at text from) [] T04 span.start
  pass_close closes = record { front = h.seen; run = run_of text span; rest = runs_at text to; joined = there; place = refl; refused = (h.reads, closes) }

  pub pass_dollar : (run_of text span).bytes ≢ opening → (run_of text span).bytes ≢ closing → word_kind (run_of text span).bytes ≡ None → FailsBehind (runs_at text from) [] T05 span.start
  pass_dollar no_open no_close none = record { front = h.seen; run = run_of text span; rest = runs_at text to; joined = there; place = refl; refused = (h.reads, no_open, no_close, none) }

  pub pass_comment : (end : ℕ) → (run_of text span).bytes ≡ opening → SkipsComment text to end → Passing text from end
  pass_comment end opens skips = record {
    seen = h.seen ++ (run_of text span ∷ (skips.inside ++ skips.last ∷ []));
    joined = grind (arith, common_steps, append_assoc, there) steps 200000;
    reads = words-append h.seen (run_of text span ∷ (skips.inside ++ skips.last ∷ [])) [] [] h.reads (record {
      parts = words.Comment (run_of text span) skips.inside skips.last ∷ [];
      each = (record { opened = opens; no_marks = skips.no_marks; closed = skips.closed }, tt);
      joined = append-nil (run_of text span ∷ (skips.inside ++ skips.last ∷ []));
      singles = refl;
    });
  }

  pub pass_fails : (number : TextNumber) (place : ℕ) → (run_of text span).bytes ≡ opening → FailsInside (runs_at text to) span.start number place → FailsBehind (runs_at text from) [] number place
  pass_fails T02 place opens fails = (record { front = h.seen; first = run_of text span; inside = runs_at text to; joined = there; before = h.reads; opened = opens; no_marks = fails.0 }, fails.1)
  pass_fails T03 place opens fails = record {
    front = h.seen ++ run_of text span ∷ fails.inside;
    run = fails.run;
    rest = fails.rest;
    joined = there ∙ ap (λ (rs : List Run). h.seen ++ run_of text span ∷ rs) fails.joined ∙ sym (append_assoc h.seen (run_of text span ∷ fails.inside) (fails.run ∷ fails.rest));
    place = fails.place;
    refused = (record { front = h.seen; first = run_of text span; inside = fails.inside; joined = refl; before = h.reads; opened = opens; no_marks = fails.no_marks }, fails.holds, fails.differs);
  }
  pass_fails _ place opens fails = absurd fails

-- a word that begins after white space alone
pub word_here : (text : List ℕ) (from start n : ℕ) (kind : WordKind) → from ≤ start → start + n ≤ length text → runs_at text from ≡ runs_at text start
    → n ≡ prefix_len is_solid (take (length text - start) (drop start text)) → 0 < n → word_kind (take n (take (length text - start) (drop start text))) ≡ Some kind
    → TakesWord text from (record { kind = kind; start = start; end = start + n }) (start + n)
word_here text from start n kind forward within white len some is =
    pass_word text from from _ (start + n) (pass_none text from) (takes_run text from start n forward some white len) kind (sym (ap word_kind (front_is text start n)) ∙ is) within (omega arith)

-- ---- what is read

pub word_read : (text : List ℕ) (from : ℕ) (word : Word) (to : ℕ) → TakesWord text from word to → read_runs None (runs_at text from) ≡ cons_word word (read_runs None (runs_at text to))
word_read text from word to h = grind (arith, common_steps, read_whole h.taken (word ∷ []) h.reads (runs_at text to)) steps 200000

-- ---- faults

-- the state of the reading before a run that is refused
record Refusal (number : TextNumber) (front : List Run) (found : List Word) (run : Run) : Type 0 where
  state : Option ℕ
  behind : Behind state front found
  fails : (tail : List Run) → read_runs state (run ∷ tail) ≡ Err (words_fault_at number run.start)
  is_number : words.IsRunNumber number front run

refusal : (number : TextNumber) (front : List Run) (found : List Word) (run : Run) → IsRunRefused number front found run → Refusal number front found run
refusal T03 front found run h = record {
  state = Some h.0.first.start;
  behind = in_comment front found h.0;
  fails = λ tail. inside_mark h.0.first.start run tail h.2 (stands_mark run.bytes h.1);
  is_number = (found, h.0, h.1, h.2);
}
refusal T04 front found run h = record { state = None; behind = h.0; fails = λ tail. outside_close run tail h.1; is_number = (found, h.0, h.1) }
refusal T05 front found run h = grind (arith, common_steps, no_kind run.bytes h.3, outside_word, spelled_kind) steps 200000
refusal _ front found run h = absurd h

abbrev stop_of : (runs : List Run) (found : List Word) (number : TextNumber) (at : ℕ) → MeetsRun runs found number at → words.StopsAtRun runs number at
stop_of runs found number at h = record {
  front = h.front;
  run = h.run;
  rest = h.rest;
  joined = h.joined;
  place = h.place;
  goes_on = goes_on (refusal number h.front found h.run h.refused).state h.front found (refusal number h.front found h.run h.refused).behind;
  stops = stops (refusal number h.front found h.run h.refused).state h.front found h.run (words_fault_at number h.run.start) (refusal number h.front found h.run h.refused).behind (refusal number h.front found h.run h.refused).fails;
  is_number = (refusal number h.front found h.run h.refused).is_number;
}

pub ends_open : (runs : List Run) (found : List Word) (at : ℕ) (h : EndsInComment runs found) → at ≡ h.first.start → EndsOpen runs at
ends_open runs found at h place = record {
  found = found;
  comment = h;
  place = place;
  goes_on = goes_on (Some h.first.start) runs found (in_comment runs found h);
  not_whole = not_whole h.first.start runs found (in_comment runs found h);
}

pub fails_read : (runs : List Run) (found : List Word) (number : TextNumber) (at : ℕ) → FailsBehind runs found number at → read_runs None runs ≡ Err (words_fault_at number at)
fails_read runs found T02 at h = placed T02 runs h.0.first.start at h.1 (ap (read_runs None) (sym (append-nil runs)) ∙ read_behind (Some h.0.first.start) runs found (in_comment runs found h.0) [])
fails_read runs found number at h = stop_fault number runs at (stop_of runs found number at h)

pub fails_more : (a b : List Run) (ws vs : List Word) (number : TextNumber) (at : ℕ) → AreWords a ws → FailsBehind b vs number at → FailsBehind (a ++ b) (ws ++ vs) number at
unfolding comment-append
fails_more a b ws vs T02 at f g = (comment-append a b ws vs f g.0, g.1)
fails_more a b ws vs number at f g = record {
  front = a ++ g.front;
  run = g.run;
  rest = g.rest;
  joined = ap (λ (rs : List Run). a ++ rs) g.joined ∙ sym (append_assoc a g.front (g.run ∷ g.rest));
  place = g.place;
  refused = refused_more number g.front g.run g.refused;
} where
  refused_more : (number : TextNumber) (front : List Run) (run : Run) → IsRunRefused number front vs run → IsRunRefused number (a ++ front) (ws ++ vs) run
  refused_more T03 front run h = (comment-append a front ws vs f h.0, h.1, h.2)
  refused_more T04 front run h = (words-append a front ws vs f h.0, h.1)
  refused_more T05 front run h = (words-append a front ws vs f h.0, h.1, h.2, h.3)
  refused_more _ front run h = absurd h

held : (number : TextNumber) (front : List Run) (found : List Word) (run : Run) → IsRunRefused number front found run → HoldWords front found
held number front found run h = grind (arith, common_steps) steps 200000

stops_words : (text : List ℕ) (found : List Word) (number : TextNumber) (at : ℕ) → IsViable (tokens_of text found) → MeetsRun (runs text) found number at → StopsWords text number at
stops_words text found number at viable h = record { stop = stop_of (runs text) found number at h; found = found; read = held number h.front found h.run h.refused; viable = viable }

-- a fault of words that is met after words with which units go on
pub first_of_words : (text : List ℕ) (found : List Word) (number : TextNumber) (at : ℕ) → first_bad text ≡ None → IsViable (tokens_of text found) → FailsBehind (runs text) found number at → IsFirstFaultAt text number at
first_of_words text found T02 at allowed viable h = (allowed, record { found = found; read = h.0; place = h.1; viable = viable })
first_of_words text found T03 at allowed viable h = (allowed, stops_words text found T03 at viable h)
first_of_words text found T04 at allowed viable h = (allowed, stops_words text found T04 at viable h)
first_of_words text found T05 at allowed viable h = (allowed, stops_words text found T05 at viable h)
first_of_words text found number at allowed viable h = absurd h.refused
