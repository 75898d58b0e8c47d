-- The state of the machine.
use Rattle.std.specs.Prelude.{ℕ, ◌+◌, ◌≤◌, length, map}
use Rattle.mm_machine.specs.Language.Frame.{Symbol}
use Rattle.mm_machine.specs.Language.Machine.{State}
use Rattle.mm_machine.specs.Language.Lasting.{HoldsLasting}
use Rattle.mm_machine.specs.Code.Ranges.{AreOrderedRanges, expressions}
use Rattle.mm_machine.specs.declared.machine.Machine.{Machine}

abbrev pub state_of : {S : Type 0} → (S → Symbol) → Machine S → State
state_of means m = expressions (map means m.symbols.items) m.stack.items m.saved.items

abbrev pub AreRanges : {S : Type 0} → (S → Symbol) → (Symbol → ℕ) → Machine S → Type 0
AreRanges means key m = AreOrderedRanges m.top m.kept m.stack.items m.saved.items × (m.top + 4 ≤ length m.symbols.items) × HoldsLasting means key m
    × (m.lasting.ground ≤ m.kept)
