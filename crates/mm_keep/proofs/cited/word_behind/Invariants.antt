use Rattle.std.proofs.Common.{◌≡◌, drop}
use Rattle.mm_keep.proofs.cited.word_behind.Given as goal

abbrev pub invariant-loop-i : goal.invariant-loop-i
invariant-loop-i l = l.words ≡ drop l._i l.initial.words
