use Rattle.std.proofs.Common.{◌≡◌, List, length}
use Rattle.mm_store.specs.mm_text.declared.word.Word.{Word}
use Rattle.mm_statement.proofs.SpokenLemmas.{Symbols}
use Rattle.mm_statement.proofs.statement.pass_symbols.Given as goal

abbrev pub invariant-loop-word : goal.invariant-loop-word
invariant-loop-word l = (l.words.text ≡ l.initial.words.text) × ((passed : List Word) × Symbols l.initial.words.words l.words.words passed)

abbrev pub decreases-loop-word : goal.decreases-loop-word
decreases-loop-word l = length l.words.words
