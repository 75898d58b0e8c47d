use Rattle.std.proofs.Common.{◌≡◌, map, take, drop}
use Rattle.mm_machine.proofs.kept.has_at.Given as goal

abbrev pub invariant-loop-n : goal.invariant-loop-n
invariant-loop-n g l = take l.n (drop l.at (map g.S.Symbol.means l.all)) ≡ take l.n (map g.S.Listed.Symbol.means l.listed)
