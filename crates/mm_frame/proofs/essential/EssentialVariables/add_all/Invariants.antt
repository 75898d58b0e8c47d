use Rattle.std.specs.Prelude.{Contains, take}
use Rattle.mm_frame.specs.Code.{LastItems.{IsRising}, KeptVariables.{AddsAll}}
use Rattle.mm_frame.proofs.essential.EssentialVariables.add_all.Given as goal

abbrev pub invariant-loop-k : goal.invariant-loop-k
invariant-loop-k l = IsRising l.essentials → Contains l.essentials l.number → AddsAll l.essentials l.number (take l.k l.symbols) l.initial.self.found.items l.self.found.items
