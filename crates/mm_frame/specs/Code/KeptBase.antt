-- What the code keeps of the items for a base.
use Rattle.std.specs.Prelude.{◌≡◌, ℕ, List, Option}
use Rattle.std.specs.Option.{option_map}
use Rattle.mm_frame.specs.declared.draft.Draft.{Draft}
use Rattle.mm_frame.specs.declared.passed.Passed.{Passed}
use Rattle.mm_frame.specs.declared.parts.BaseParts.{BaseParts}
use Rattle.mm_frame.specs.declared.frame.Frame.{Frame}
use Rattle.mm_machine.specs.declared.symbol.NumberedSymbol.{NumberedSymbol}
use Rattle.mm_machine.specs.Language.Names.{AreDistinct, Begins}
use Rattle.mm_frame.specs.Code.KeptAssertions.{TellsFrame, TellsPairs, AreAssertions}
use Rattle.mm_frame.specs.Code.KeptActiveItems.{AreActiveKept}
use Rattle.mm_frame.specs.Code.KeptRows.{AreRowsKept, rows_of}
use Rattle.mm_frame.specs.Code.KeptSymbols.{AreSymbols}
use Rattle.mm_frame.specs.Code.{KeptDisjointRows.{KnowsPairs}, KeptShared.{shared_values}}
use Rattle.mm_statement.specs.Language.Item.{Said}
use Rattle.mm_frame.specs.Language.Sound.{sound_items}
use Rattle.mm_frame.specs.declared.pair_lists.PairLists.{PairLists}
use Rattle.mm_frame.specs.Code.KeptPairLists.{list_kept}
use Rattle.mm_frame.specs.Code.LastItems.{last_where, carries}
use Rattle.mm_frame.specs.Language.Answering.{AreRows, IsLabelTold, told_numbers}
use Rattle.mm_frame.specs.Code.BlockMarks.{block_marks}
use Rattle.mm_frame.specs.Code.KeptTables.{table_label}
use Rattle.mm_frame.specs.declared.tables.Tables.{Tables}
use Rattle.mm_frame.specs.Code.KeptScope.{ScopeHolds}
use Rattle.mm_frame.specs.Language.Base.{BaseView, before, said_at}

-- the numbers of the mandatory hypotheses of the item with this number, if it is a sound `$a` or `$p`
abbrev pub hypotheses_at : BaseView → ℕ → Option (List ℕ)
hypotheses_at base i = told_numbers (before base i) (said_at base i)

-- the number of the sound item that carries a label
abbrev pub find_in : BaseView → List ℕ → Option ℕ
find_in base label = last_where (carries label) (sound_items base)

-- this is kept of items that say this, by the numbers of names in the list of all
pub record IsPassed (all : List (List ℕ)) (said : List Said) (passed : Passed) : Type 0 where
  pub scope : ScopeHolds all (sound_items said) passed.scope
  pub kept : AreRowsKept passed.rows
  pub rows : AreRows IsLabelTold said (rows_of passed.rows)
  pub symbols : AreSymbols all (sound_items said) passed.expressions
  pub active : AreActiveKept (sound_items said) passed.expressions passed.active
  pub disjoint_rows : KnowsPairs all (sound_items said) passed.disjoint_rows

-- the draft is that after these items: the symbols of the last one, and their numbers, are nothing that is said
abbrev pub IsDraft : List (List ℕ) → List Said → Draft → Type 0
IsDraft all said draft = IsPassed all said draft.passed × AreAssertions all said draft.assertions

-- the draft is right by each list of names that begins with these
abbrev pub IsDraftLater : List (List ℕ) → List Said → Draft → Type 0
IsDraftLater names said draft = (all : List (List ℕ)) → AreDistinct all → Begins names all → IsDraft all said draft

-- the tables say which of these items carries a label
abbrev pub KnowsLabels : List Said → Tables → Type 0
KnowsLabels items tables = (label : List ℕ) → table_label tables label ≡ last_where (carries label) items

-- what is kept of items that say this
pub record AreParts (all : List (List ℕ)) (said : List Said) (parts : BaseParts) : Type 0 where
  pub kept : AreRowsKept parts.rows
  pub rows : AreRows IsLabelTold said (rows_of parts.rows)
  pub symbols : AreSymbols all (sound_items said) parts.expressions
  pub frames : AreRows (TellsFrame all) said (shared_values parts.frames)
  pub labels : KnowsLabels (sound_items said) parts.tables
  pub marks : parts.blocks ≡ block_marks (sound_items said)
  pub pair_numbers : AreRows (TellsPairs all parts.pair_lists) said parts.pair_numbers

-- what is reported from the frame that is kept, if one is
abbrev pub frame_told : Option Frame → Option (List ℕ × List (NumberedSymbol × NumberedSymbol))
frame_told kept_frame = option_map (λ frame. (frame.hypotheses.items, frame.pairs.items)) kept_frame

-- the list of active pairs with this number, if there is one
abbrev pub list_told : PairLists → Option ℕ → Option (List (NumberedSymbol × NumberedSymbol))
list_told lists number = option_map (list_kept lists) number
