use Rattle.std.proofs.Common.{◌≡◌, ◌-◌, drop}
use Rattle.mm_text.specs.Code.LeftToRight.{holds_mark}
use Rattle.mm_text.proofs.spelling.has_mark.Given as goal

abbrev pub invariant-loop-i : goal.invariant-loop-i
invariant-loop-i l = holds_mark (drop (l.i - 1) l.run) ≡ holds_mark l.run
