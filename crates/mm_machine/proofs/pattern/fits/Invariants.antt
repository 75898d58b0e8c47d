use Rattle.std.proofs.Common.{◌≤◌, ◌-◌, length, map, drop}
use Rattle.mm_machine.{specs.{Language.Lasting.{pattern_symbols}, Code.Filling.{AreSlotsWithin, filled, given_symbols}}, proofs.lemmas.machine.FillLemmas.{Fitting}}
use Rattle.mm_machine.proofs.pattern.fits.Given as goal

abbrev pub invariant-loop-n : goal.invariant-loop-n
invariant-loop-n g l = record {
  within : l.at ≤ l.entry.end;
  from : l.from ≤ l.pattern.end;
  slots : AreSlotsWithin l.given (length l.all - 4) (l.pattern.end - l.from) (drop l.n l.slots);
  fitting : Fitting (map g.S.Symbol.means l.all) l.given l.entry
      (filled (map (given_symbols (map g.S.Symbol.means l.all)) l.given) (pattern_symbols (map g.S.Symbol.means l.all) l.pattern) l.slots)
      l.at l.from l.pattern.end (drop l.n l.slots);
}
