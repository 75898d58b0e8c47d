use Rattle.std.proofs.Common.{◌≡◌, ◌≤◌, ◌+◌, ◌-◌, List, ◌++◌, length, vec_capacity}
use Rattle.mm_verdict.{specs.{Language.Letters.{Letter, letters_in}, Code.Reader.{Aim, ReadsLetters}}, proofs.lemmas.decoding.ReaderLemmas.{letters_on}}
use Rattle.mm_verdict.proofs.letters.LetterReader.read_word.Given as goal

abbrev pub invariant-loop-letter : goal.invariant-loop-letter
invariant-loop-letter l = record {
  labels : l.reader.labels ≡ l.fn.self.labels;
  room : length l.reader.steps.items + (length l.word - l.letter) ≤ vec_capacity l.reader.steps;
  reads : (aim : Aim) (ls : List Letter) → ReadsLetters aim l.fn.self (letters_in (l.n, l.word) ++ ls) → ReadsLetters aim l.reader (letters_on l.n l.letter l.word ++ ls);
}
