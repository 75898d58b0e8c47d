use Rattle.std.proofs.Common.{◌≡◌, take}
use Rattle.mm_store.proofs.kept_part.kept_parts.Given as goal

abbrev pub invariant-loop-part : goal.invariant-loop-part
invariant-loop-part l = l.kept.items ≡ take l.part-index l.parts
