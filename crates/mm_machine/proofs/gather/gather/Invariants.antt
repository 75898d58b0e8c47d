use Rattle.std.proofs.Common.{◌≡◌, ◌++◌, List, length, map, take}
use Rattle.mm_machine.specs.{Language.{Frame.{Symbol}, Keys.{AreNumbered}}, Code.PairClause.{GathersSymbols}}
use Rattle.mm_machine.proofs.gather.gather.Given as goal

abbrev pub invariant-loop-i : goal.invariant-loop-i
invariant-loop-i g l = record {
  begin : l.start ≡ length l.initial.sets.chunks.items;
  numbered : AreNumbered g.S.Kept.key_of (map g.S.Symbol.means l.variables.all.items) l.variables.places.items;
  grows : (more : List Symbol) × (map g.S.Symbol.means l.variables.all.items ≡ map g.S.Symbol.means l.initial.variables.all.items ++ more);
  so_far : GathersSymbols (take l.i (map g.S.Symbol.means l.symbols)) (map g.S.Symbol.means l.variables.all.items) l.initial.sets.chunks.items l.sets.chunks.items;
}
