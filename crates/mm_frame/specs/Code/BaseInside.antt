-- What the code's base reports, from what it keeps.
use Rattle.std.specs.Prelude.{◌≡◌, ◌↔◌, ℕ, Some, None, List, map, slice_get}
use Rattle.mm_frame.specs.declared.base.Base.TheInside.{Inside}
use Rattle.mm_frame.specs.Language.Answering.{BaseAnswers}
use Rattle.mm_frame.specs.Code.KeptTables.{table_label}
use Rattle.mm_frame.specs.Code.{KeptRows.{AreRowsKept, rows_of}, KeptShared.{shared_values}}
use Rattle.mm_frame.specs.Code.KeptBase.{frame_told, list_told}

abbrev pub answers_of : Inside → BaseAnswers
answers_of inside = record {
  items = inside.items.items;
  rows = rows_of inside.parts.rows;
  expressions = inside.parts.expressions;
  frames = map frame_told (shared_values inside.parts.frames);
  frame_numbers = inside.parts.frames.places;
  actives = map (list_told inside.parts.pair_lists) inside.parts.pair_numbers;
  list_numbers = inside.parts.pair_numbers;
  marks = inside.parts.blocks;
}

-- what is kept of labels and faults fits together, and for each label of an item without a fault it is kept which item that is
pub record KnowsItems (inside : Inside) : Type 0 where
  pub rows : AreRowsKept inside.parts.rows
  pub labels : (label : List ℕ) (j : ℕ) → (table_label inside.parts.tables label ≡ Some j)
      ↔ (slice_get (rows_of inside.parts.rows) j ≡ Some (Some label, None))
