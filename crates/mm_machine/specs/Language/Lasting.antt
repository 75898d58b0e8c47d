-- The lasting expressions of a machine, which each run can push and cite, and where their variables are.
use Rattle.std.specs.Prelude.{◌≡◌, ℕ, ◌+◌, ◌<◌, ◌≤◌, true, false, Some, List, [], ◌∷◌, length, map, drop, take, slice_get, slice_index_or, Contains, All}
use Rattle.mm_machine.specs.Language.Frame.{Symbol, Mandatory, Frame}
use Rattle.mm_machine.specs.Language.Typing.{IsFrame}
use Rattle.mm_machine.specs.Language.CodeLists.{range_of, meant_pairs}
use Rattle.mm_machine.specs.Language.Keys.{AreNumbered}
use Rattle.mm_machine.specs.declared.slots.Slot.{Slot}
use Rattle.mm_machine.specs.declared.lasting.Pattern.{Pattern}
use Rattle.mm_machine.specs.declared.named.Cited.{Cited}
use Rattle.mm_machine.specs.declared.machine.Machine.{Machine}

-- the expression has these slots: runs of constants, a variable behind each of them, which has its number among these, and constants at the end
abbrev pub AreSlotsOf : List Symbol → List Symbol → List Slot → Type 0
AreSlotsOf variables expression [] = (s : Symbol) → Contains expression s → s.variable ≡ false
AreSlotsOf variables expression (slot ∷ slots) =
    ((s : Symbol) → Contains (take slot.constants expression) s → s.variable ≡ false) × (v : Symbol) × (slice_get expression slot.constants ≡ Some v)
    × (v.variable ≡ true) × (slice_get variables slot.variable ≡ Some v) × AreSlotsOf variables (drop (slot.constants + 1) expression) slots

-- the symbols of a pattern
abbrev pub pattern_symbols : List Symbol → Pattern → List Symbol
pattern_symbols symbols p = range_of p.start p.end symbols

-- its slots
abbrev pub pattern_slots : List Slot → Pattern → List Slot
pattern_slots slots p = range_of p.first p.last slots

-- the lasting expression of a pattern, as a mandatory hypothesis has it
abbrev pub lasting_at : List Symbol → Pattern → Mandatory
lasting_at symbols p = record { floating = p.floating; expression = pattern_symbols symbols p }

-- the ranges of a pattern are within the lists, its symbols below a place, and its slots are those of its expression
pub record IsPattern (ground : ℕ) (symbols variables : List Symbol) (slots : List Slot) (p : Pattern) : Type 0 where
  pub in_order : p.start ≤ p.end
  pub within : p.end ≤ ground
  pub slots_in_order : p.first ≤ p.last
  pub slots_within : p.last ≤ length slots
  pub slots_are : AreSlotsOf variables (pattern_symbols symbols p) (pattern_slots slots p)

-- the lasting expressions, in order
abbrev pub lasting_of : {S : Type 0} → (S → Symbol) → Machine S → List Mandatory
lasting_of means m = map (lasting_at (map means m.symbols.items)) m.lasting.patterns.items

-- the lasting expressions are ranges of the machine's symbols, below the place where those of a run begin; each of their variables has a number,
-- and a place for what it is given
pub record HoldsLasting {S : Type 0} (means : S → Symbol) (key : Symbol → ℕ) (m : Machine S) : Type 0 where
  pub below : m.lasting.ground ≤ length m.symbols.items
  pub numbered : AreNumbered key (map means m.lasting.variables.all.items) m.lasting.variables.places.items
  pub patterns : All (IsPattern m.lasting.ground (map means m.symbols.items) (map means m.lasting.variables.all.items) m.lasting.slots.items)
      m.lasting.patterns.items
  pub given : length m.given.items ≡ length m.lasting.variables.all.items

-- the lasting expressions are the same
abbrev pub KeepsLasting : {S : Type 0} → (S → Symbol) → Machine S → Machine S → Type 0
KeepsLasting means old new = lasting_of means new ≡ lasting_of means old

-- the lasting expression with a number
abbrev pub lasting_or : List Mandatory → ℕ → Mandatory
lasting_or lasting n = slice_index_or lasting n (record { floating = false; expression = [] })

-- the frame of an assertion that is cited
abbrev pub cited_frame : {L : Type 0} → (L → Symbol) → List Mandatory → Cited L → Frame
cited_frame listed lasting c = record {
  expression = (lasting_or lasting c.expression).expression;
  hypotheses = map (lasting_or lasting) c.hypotheses.now;
  pairs = meant_pairs listed c.pairs.now;
}

-- an assertion has the numbers of lasting expressions, and its frame is one
pub record IsCited {L : Type 0} (listed : L → Symbol) (lasting : List Mandatory) (c : Cited L) : Type 0 where
  pub expression : c.expression < length lasting
  pub hypotheses : All (λ n. n < length lasting) c.hypotheses.now
  pub frame : IsFrame (cited_frame listed lasting c)
