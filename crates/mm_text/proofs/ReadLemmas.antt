-- What one run does to a reading.
use Rattle.std.proofs.{Common.{[], arith, ◌≡◌, ◌≢◌, ℕ, true, false, List, ◌∷◌, ◌++◌, Some, None, Err, refl}, lemmas.{Grind.{common_steps}, Bool.{false_from_ne_true}, Slice.Eq.{bytes_eq-Decides}}}
use Rattle.mm_text.specs.{declared.{fault.TextNumber.TheVariants.{T03, T04}, word.Word.{Word}}, Language.{Run.{Run}, Spelling.{opening, closing}}}
use Rattle.mm_text.specs.Code.LeftToRight.{read_runs, Read, with_words, cons_word, holds_mark, words_fault_at, word_kind, word_alone}

-- inside a comment
pub inside_end : (start : ℕ) (run : Run) (runs : List Run) → run.bytes ≡ closing → read_runs (Some start) (run ∷ runs) ≡ read_runs None runs
inside_end start run runs e = grind (arith, common_steps, bytes_eq-Decides run.bytes closing) steps 200000

pub inside_mark : (start : ℕ) (run : Run) (runs : List Run) → run.bytes ≢ closing → holds_mark run.bytes ≡ true → read_runs (Some start) (run ∷ runs) ≡ Err (words_fault_at T03 run.start)
inside_mark start run runs ne mark = grind (arith, common_steps, bytes_eq-Decides, false_from_ne_true) steps 200000

pub inside_more : (start : ℕ) (run : Run) (runs : List Run) → run.bytes ≢ closing → holds_mark run.bytes ≡ false → read_runs (Some start) (run ∷ runs) ≡ read_runs (Some start) runs
inside_more start run runs ne no_mark = grind (arith, common_steps, bytes_eq-Decides, false_from_ne_true) steps 200000

-- outside comments
pub outside_open : (run : Run) (runs : List Run) → run.bytes ≡ opening → read_runs None (run ∷ runs) ≡ read_runs (Some run.start) runs
outside_open run runs e = grind (arith, common_steps, bytes_eq-Decides run.bytes opening) steps 200000

pub outside_close : (run : Run) (runs : List Run) → run.bytes ≡ closing → read_runs None (run ∷ runs) ≡ Err (words_fault_at T04 run.start)
outside_close run runs e = rw (e) refl

pub outside_word : (run : Run) (runs : List Run) → run.bytes ≢ opening → run.bytes ≢ closing → read_runs None (run ∷ runs) ≡ word_alone run (word_kind run.bytes) (read_runs None runs)
outside_word run runs no_open no_close = grind (arith, common_steps, bytes_eq-Decides, false_from_ne_true) steps 200000

-- one more word is read
pub words_more : (words : List Word) (word : Word) (old new : Read) → old ≡ cons_word word new → with_words (words ++ word ∷ []) new ≡ with_words words old
words_more words word old new e = grind (arith, common_steps) steps 200000
