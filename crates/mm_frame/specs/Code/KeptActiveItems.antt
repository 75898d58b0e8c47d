-- What the code keeps of the active `$e` and `$d`.
use Rattle.std.specs.Prelude.{◌≡◌, ◌||◌, Bool, List}
use Rattle.mm_frame.specs.declared.active_items.ActiveItems.{ActiveItems}
use Rattle.mm_machine.specs.declared.symbol.NumberedSymbol.{NumberedSymbol}
use Rattle.mm_statement.specs.Language.Item.{Kind, Said, is_kind, Disjoint, Essential}
use Rattle.mm_frame.specs.Language.Scope.{active_numbers}
use Rattle.mm_frame.specs.Language.Marks.{mark_of}
use Rattle.mm_frame.specs.Code.BlockMarks.{closes}
use Rattle.mm_frame.specs.Code.LastItems.{is_essential_item, is_disjoint_item}
use Rattle.mm_frame.specs.Code.KeptVariables.{AreVariablesOf}

-- a sound item of this kind may change which `$e` and `$d` are active
abbrev pub changes_active : Kind → Bool
changes_active kind = is_kind Essential kind || is_kind Disjoint kind || closes (mark_of kind)

-- what is kept as active is right after these items; these are the symbols kept for them
pub record AreActiveKept (before : List Said) (expressions : List (List NumberedSymbol)) (active : ActiveItems) : Type 0 where
  pub essentials : active.essentials ≡ active_numbers is_essential_item before
  pub disjoints : active.disjoints ≡ active_numbers is_disjoint_item before
  pub variables : AreVariablesOf active.essentials expressions active.variables.found.items
