-- The labels and faults of items as the code keeps them: the labels, whether each is one, and the faults up to the last.
use Rattle.std.specs.Prelude.{◌≡◌, ℕ, suc, ◌≤◌, ◌&&◌, Bool, false, if◌then◌else◌, is_some, is_none}
use Rattle.std.specs.Prelude.{Option, Some, None, List, [], ◌∷◌, length, slice_get, slice_index_or}
use Rattle.std.specs.Option.{option_map}
use Rattle.mm_frame.specs.declared.FrameNumber.{FrameNumber}
use Rattle.mm_frame.specs.declared.judge.FrameFault.{FrameFault}
use Rattle.mm_frame.specs.declared.item_rows.Rows.{Rows}

-- what is reported of a fault
abbrev pub fault_told : Option FrameFault → Option (ℕ × FrameNumber)
fault_told fault = option_map (λ f. (f.word, f.number)) fault

-- the fault at a place: none if there is no such place
abbrev pub fault_or_none : Option (Option FrameFault) → Option FrameFault
fault_or_none None = None
fault_or_none (Some fault) = fault

abbrev pub fault_kept : List (Option FrameFault) → ℕ → Option FrameFault
fault_kept faults n = fault_or_none (slice_get faults n)

-- what is reported of an item with these bytes; whether it has a label, and its fault, are kept at a place
abbrev pub row_told : List Bool → List (Option FrameFault) → ℕ → List ℕ → Option (List ℕ) × Option (ℕ × FrameNumber)
row_told flags faults n bytes = (if slice_index_or flags n false then Some bytes else None, fault_told (fault_kept faults n))

-- what is reported of items one after another, from this place on
abbrev pub rows_from : ℕ → List (List ℕ) → List Bool → List (Option FrameFault) → List (Option (List ℕ) × Option (ℕ × FrameNumber))
rows_from n [] flags faults = []
rows_from n (bytes ∷ labels) flags faults = row_told flags faults n bytes ∷ rows_from (suc n) labels flags faults

-- the labels and faults of the items
abbrev pub rows_of : Rows → List (Option (List ℕ) × Option (ℕ × FrameNumber))
rows_of rows = rows_from 0 rows.labels rows.labelled.items rows.faults.items

-- it is kept of each item whether it has a label, and there are no more faults
pub record AreRowsKept (rows : Rows) : Type 0 where
  pub flags : length rows.labelled.items ≡ length rows.labels
  pub faults : length rows.faults.items ≤ length rows.labels

-- the label of an item, its fault, and whether it has a label and no fault, if there is such an item
abbrev pub row_label : Option (Option (List ℕ) × Option (ℕ × FrameNumber)) → Option (List ℕ)
row_label None = None
row_label (Some row) = row.0

abbrev pub row_fault : Option (Option (List ℕ) × Option (ℕ × FrameNumber)) → Option (ℕ × FrameNumber)
row_fault None = None
row_fault (Some row) = row.1

abbrev pub is_shown_in : Option (Option (List ℕ) × Option (ℕ × FrameNumber)) → Bool
is_shown_in None = false
is_shown_in (Some row) = is_none row.1 && is_some row.0
