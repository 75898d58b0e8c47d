use Rattle.std.proofs.Common.{◌≡◌, List, drop}
use Rattle.mm_text.specs.{declared.word.Word.{Word}, Language.Reading.{HasWords}}
use Rattle.mm_text.proofs.whole_text.nth_word.Given as goal

abbrev pub invariant-loop-number : goal.invariant-loop-number
invariant-loop-number l = record { text : l.cursor.text ≡ l.text; left : (words : List Word) → HasWords l.text words → l.cursor.words ≡ drop l._number words }
