use Rattle.std.proofs.Common.{◌≡◌, ◌++◌, List, map}
use Rattle.mm_machine.specs.{Language.{Frame.{Symbol}, Keys.{AreNumbered}}, Code.{Filling.{entries_of, frame_taking}, PairClause.{Gathers}}}
use Rattle.mm_machine.proofs.gather.PairRoom.gather_all.Given as goal

abbrev pub invariant-loop-place : goal.invariant-loop-place
invariant-loop-place g l = record {
  numbered : AreNumbered g.S.Kept.key_of (map g.S.Symbol.means l.self.variables.all.items) l.self.variables.places.items;
  grows : (more : List Symbol) × (map g.S.Symbol.means l.self.variables.all.items ≡ map g.S.Symbol.means l.initial.self.variables.all.items ++ more);
  known : l.self.known ≡ l.initial.self.known;
  so_far : Gathers (frame_taking g.S.Symbol.means g.S.Listed.Symbol.means l.taken).hypotheses (entries_of g.S.Symbol.means l.taken) (map g.S.Symbol.means l.self.variables.all.items)
      l.self.sets.chunks.items l.self.spans.items l.place;
}
