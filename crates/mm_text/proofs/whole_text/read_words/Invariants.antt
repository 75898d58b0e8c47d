use Rattle.std.proofs.Common.{◌≡◌, ◌-◌, length, None}
use Rattle.mm_text.specs.{Language.Run.{runs}, Code.{Reader.{runs_at}, LeftToRight.{read_runs, with_words}}}
use Rattle.mm_text.proofs.whole_text.read_words.Given as goal

abbrev pub invariant-loop-words : goal.invariant-loop-words
invariant-loop-words l = record { text : l.reader.text.now ≡ l.text; rest : with_words l.words.items (read_runs None (runs_at l.text l.reader.from)) ≡ read_runs None (runs l.text) }

abbrev pub decreases-loop-words : goal.decreases-loop-words
decreases-loop-words l = length l.reader.text.now - l.reader.from
