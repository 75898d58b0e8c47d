use Rattle.std.proofs.Common.{◌≡◌, ◌≤◌, ◌-◌, ◌+◌, length, map, drop}
use Rattle.mm_machine.{specs.{Language.Lasting.{pattern_symbols}, Code.Filling.{AreSlotsWithin, filled, given_symbols}}, proofs.lemmas.machine.FillLemmas.{Built}}
use Rattle.mm_machine.proofs.pattern.build.Given as goal

abbrev pub invariant-loop-n : goal.invariant-loop-n
invariant-loop-n g l = record {
  count : length l.all ≡ length l.initial.all;
  low : l.top ≤ l.at;
  within : l.at + 4 ≤ length l.all;
  from : l.from ≤ l.pattern.end;
  slots : AreSlotsWithin l.given l.top (l.pattern.end - l.from) (drop l.n l.slots);
  built : Built (map g.S.Symbol.means l.initial.all) l.given
      (filled (map (given_symbols (map g.S.Symbol.means l.initial.all)) l.given) (pattern_symbols (map g.S.Symbol.means l.initial.all) l.pattern) l.slots)
      l.top l.at l.from l.pattern.end (map g.S.Symbol.means l.all) (drop l.n l.slots);
}
