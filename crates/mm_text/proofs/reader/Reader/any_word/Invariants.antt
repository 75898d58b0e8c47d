use Rattle.std.proofs.Common.{◌≡◌, ◌≤◌, ◌-◌, length}
use Rattle.mm_text.proofs.ReaderLemmas.{Passing}
use Rattle.mm_text.proofs.reader.Reader.any_word.Given as goal

abbrev pub invariant-loop-span : goal.invariant-loop-span
invariant-loop-span l = record { text : l.self.text.now ≡ l.fn.self.text.now; forward : l.fn.self.from ≤ l.self.from; passes : Passing l.fn.self.text.now l.fn.self.from l.self.from }

abbrev pub decreases-loop-span : goal.decreases-loop-span
decreases-loop-span l = length l.self.text.now - l.self.from
