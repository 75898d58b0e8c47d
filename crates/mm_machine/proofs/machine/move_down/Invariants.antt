use Rattle.std.proofs.Common.{◌≡◌, ◌+◌, ◌++◌, map, take, drop}
use Rattle.mm_machine.proofs.machine.move_down.Given as goal

abbrev pub invariant-loop-n : goal.invariant-loop-n
invariant-loop-n g l = record {
  moved : take (l.to + l.n) (map g.S.Symbol.means l.all) ≡ take l.to (map g.S.Symbol.means l.initial.all) ++ take l.n (drop l.from (map g.S.Symbol.means l.initial.all));
  rest : drop (l.to + l.n) l.all ≡ drop (l.to + l.n) l.initial.all;
}
