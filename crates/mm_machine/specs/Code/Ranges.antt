-- The stack and the saved expressions, as ranges of one list of symbols.
use Rattle.std.specs.Prelude.{◌≡◌, ℕ, ◌<◌, ◌≤◌, Some, List, [], ◌∷◌, ◌++◌, slice_get, All}
use Rattle.mm_machine.specs.Language.Frame.{Symbol}
use Rattle.mm_machine.specs.Language.Machine.{State}
use Rattle.mm_machine.specs.declared.pattern.Entry.{Entry}
use Rattle.mm_machine.specs.Code.Flat.{read_all, IsEntryWithin}

-- the ranges are within the list, those that are saved in its front, and no entry reaches into what a later one owns
pub record AreOrderedRanges (n kept : ℕ) (stack saved : List Entry) : Type 0 where
  pub kept_within : kept ≤ n
  pub within : All (IsEntryWithin n) stack
  pub floors_within : All (λ e. e.floor ≤ n) stack
  pub saved_within : All (IsEntryWithin kept) saved
  pub apart : (i j : ℕ) (a b : Entry) → i < j → slice_get stack i ≡ Some a → slice_get stack j ≡ Some b → (a.end ≤ b.floor) × (a.floor ≤ b.floor)

-- the expressions of these ranges
abbrev pub expressions : List Symbol → List Entry → List Entry → State
expressions symbols stack saved = record { stack = read_all symbols stack; saved = read_all symbols saved }

-- the entry on top was saved
abbrev pub Saves : State → State → Type 0
Saves before after = (below : List (List Symbol)) × (e : List Symbol) × (before.stack ≡ below ++ e ∷ []) × (after.stack ≡ before.stack) ×
    (after.saved ≡ before.saved ++ e ∷ [])
