use Rattle.std.proofs.Common.{◌≡◌, ◌+◌, length}
use Rattle.mm_verdict.specs.{Language.Letters.{letters_from}, Code.Reader.{Aim, ReadsLetters}}
use Rattle.mm_verdict.proofs.letters.read_letters.Given as goal

abbrev pub invariant-loop-word : goal.invariant-loop-word
invariant-loop-word l = record {
  count : l.n + length l.words ≡ l.from + length l.initial.words;
  labels : l.reader.labels ≡ l.labels;
  goes : (aim : Aim) → ReadsLetters aim l.initial.reader (letters_from l.from l.initial.words) → ReadsLetters aim l.reader (letters_from l.n l.words);
}

abbrev pub decreases-loop-word : goal.decreases-loop-word
decreases-loop-word l = length l.words
