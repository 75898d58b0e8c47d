-- What takes the place of the variables of an expression when its assertion is cited.
use Rattle.std.specs.Prelude.{◌≡◌, ℕ, ◌+◌, ◌-◌, ◌<◌, ◌≤◌, Some, List, [], ◌∷◌, ◌++◌, length, map, take, drop, slice_get, slice_index_or, All}
use Rattle.mm_machine.specs.Language.Frame.{Symbol, Mandatory, Frame}
use Rattle.mm_machine.specs.Language.CodeLists.{range_of}
use Rattle.mm_machine.specs.Language.Keys.{AreNumbered}
use Rattle.mm_machine.specs.Language.Lasting.{IsCited, IsPattern, cited_frame, lasting_at, pattern_slots, pattern_symbols}
use Rattle.mm_machine.specs.declared.slots.Slot.{Slot}
use Rattle.mm_machine.specs.declared.{lasting.Pattern.{Pattern}, pattern.Given.{Given}}
use Rattle.mm_machine.specs.declared.taken.{Taken.{Taken}}
use Rattle.mm_machine.specs.Code.Flat.{IsEntryWithin, read_all}
use Rattle.mm_machine.specs.Code.Citation.{AreGiven}

-- what a variable is given
abbrev pub given_symbols : List Symbol → Given → List Symbol
given_symbols symbols g = range_of g.start g.end symbols

-- the expression with these slots, if its variables are given these lists by their numbers: each gives way to its own
abbrev pub filled : List (List Symbol) → List Symbol → List Slot → List Symbol
filled lists expression [] = expression
filled lists expression (slot ∷ slots) =
    take slot.constants expression ++ (slice_index_or lists slot.variable [] ++ filled lists (drop (slot.constants + 1) expression) slots)

-- the range is within a list of this length
abbrev pub IsGivenWithin : ℕ → Given → Type 0
IsGivenWithin n g = (g.start ≤ g.end) × (g.end ≤ n)

-- the variables of the slots are given ranges of the first so many symbols, and the slots are of an expression with this many symbols
abbrev pub AreSlotsWithin : List Given → ℕ → ℕ → List Slot → Type 0
AreSlotsWithin given top symbols [] = Unit {0}
AreSlotsWithin given top symbols (slot ∷ slots) = ((g : Given) × (slice_get given slot.variable ≡ Some g) × IsGivenWithin top g)
    × (slot.constants < symbols) × AreSlotsWithin given top (symbols - (slot.constants + 1)) slots

-- the pattern is among the first so many symbols, and can be filled by what is given
pub record IsFillable (given : List Given) (top : ℕ) (all_slots : List Slot) (p : Pattern) : Type 0 where
  pub in_order : p.start ≤ p.end
  pub within : p.end ≤ top
  pub slots_in_order : p.first ≤ p.last
  pub slots_within : p.last ≤ length all_slots
  pub slots : AreSlotsWithin given top (p.end - p.start) (pattern_slots all_slots p)

-- the pattern filled by what is given
abbrev pub pattern_filled : List Symbol → List Given → List Slot → Pattern → List Symbol
pattern_filled symbols given slots p = filled (map (given_symbols symbols) given) (pattern_symbols symbols p) (pattern_slots slots p)

-- the entries that are taken
abbrev pub entries_of : {S L : Type 0} → (S → Symbol) → Taken S L → List (List Symbol)
entries_of means taken = read_all (map means taken.symbols.now) taken.entries.now

-- the lasting expressions
abbrev pub lasting_taken : {S L : Type 0} → (S → Symbol) → Taken S L → List Mandatory
lasting_taken means taken = map (lasting_at (map means taken.symbols.now)) taken.lasting.now.patterns.items

-- their variables
abbrev pub variables_of : {S L : Type 0} → (S → Symbol) → Taken S L → List Symbol
variables_of means taken = map means taken.lasting.now.variables.all.items

-- the frame that takes them
abbrev pub frame_taking : {S L : Type 0} → (S → Symbol) → (L → Symbol) → Taken S L → Frame
frame_taking means listed taken = cited_frame listed (lasting_taken means taken) taken.cited.now

-- the entries are as many as the assertion has hypotheses; they and the lasting expressions are within the symbols, with a block behind
pub record AreTaken {S L : Type 0} (means : S → Symbol) (listed : L → Symbol) (key : Symbol → ℕ) (taken : Taken S L) : Type 0 where
  pub within : All (IsEntryWithin (length taken.symbols.now - 4)) taken.entries.now
  pub count : length taken.entries.now ≡ length taken.cited.now.hypotheses.now
  pub below : taken.lasting.now.ground + 4 ≤ length taken.symbols.now
  pub patterns : All (IsPattern taken.lasting.now.ground (map means taken.symbols.now) (variables_of means taken) taken.lasting.now.slots.items)
      taken.lasting.now.patterns.items
  pub numbered : AreNumbered key (variables_of means taken) taken.lasting.now.variables.places.items
  pub cited : IsCited listed (lasting_taken means taken) taken.cited.now

-- all hypotheses that are `$f` give
abbrev pub AllGive : {S L : Type 0} → (S → Symbol) → (L → Symbol) → Taken S L → List Given → Type 0
AllGive means listed taken given =
    AreGiven (variables_of means taken) (frame_taking means listed taken).hypotheses taken.entries.now given (length taken.entries.now)
