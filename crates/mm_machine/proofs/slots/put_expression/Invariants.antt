use Rattle.std.proofs.Common.{◌≡◌, ◌+◌, ◌++◌, List, map, take}
use Rattle.mm_machine.{specs.{Language.{Frame.{Symbol}, Keys.{AreNumbered}}, declared.slots.Slot.{Slot}}, proofs.lemmas.machine.SlotLemmas.{SlotsUpTo}}
use Rattle.mm_machine.proofs.slots.put_expression.Given as goal

abbrev pub invariant-loop-place : goal.invariant-loop-place
invariant-loop-place g l = record {
  put : take (l.at + l.place) (map g.S.Symbol.means l.all) ≡ take l.at (map g.S.Symbol.means l.initial.all) ++ take l.place (map g.S.Listed.Symbol.means l.expression);
  numbered : AreNumbered g.S.Kept.key_of (map g.S.Symbol.means l.variables.all.items) l.variables.places.items;
  grows : (more : List Symbol) × (map g.S.Symbol.means l.variables.all.items ≡ map g.S.Symbol.means l.initial.variables.all.items ++ more);
  slots : (more : List Slot) × (l.slots.items ≡ l.initial.slots.items ++ more)
      × SlotsUpTo (map g.S.Symbol.means l.variables.all.items) (map g.S.Listed.Symbol.means l.expression) l.place l.constants more;
}
