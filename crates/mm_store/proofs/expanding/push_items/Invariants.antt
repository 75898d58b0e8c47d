use Rattle.std.proofs.Common.{◌≡◌, ◌++◌, map, take}
use Rattle.mm_store.specs.Code.Gains.{item_of_part}
use Rattle.mm_store.proofs.expanding.push_items.Given as goal

abbrev pub invariant-loop-part : goal.invariant-loop-part
invariant-loop-part l = l.items.items ≡ l.initial.items.items ++ map (item_of_part l.spot) (take l.part-index l.parts)
