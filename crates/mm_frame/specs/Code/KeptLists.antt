-- A list for each item as the code keeps it: the elements of all lists in one, and for each item the part that is its own.
use Rattle.std.specs.Prelude.{ℕ, ◌≤◌, Option, Some, None, List, [], All, map, length, slice_get, slice_range}
use Rattle.mm_frame.specs.declared.item_lists.Part.{Part}
use Rattle.mm_frame.specs.declared.item_lists.ItemLists.TheInside.{Inside}

-- the list that is kept for an item: no elements if nothing is kept
abbrev pub list_or_none : {X : Type 0} → Option (List X) → List X
list_or_none None = []
list_or_none (Some list) = list

-- the list that is kept for the item with this number
abbrev pub item_list : {X : Type 0} → List (List X) → ℕ → List X
item_list lists n = list_or_none (slice_get lists n)

-- a part of no elements
abbrev pub no_part : Part
no_part = record { start = 0; end = 0 }

-- the elements of a part
abbrev pub elements_of : {X : Type 0} → List X → Part → List X
elements_of elements part = slice_range elements part.start part.end

-- the list of each item
abbrev pub lists_inside : {X : Type 0} → Inside X → List (List X)
lists_inside inside = map (elements_of inside.elements.items) inside.parts.items

-- a part is one of a list of this many elements
abbrev pub IsPartOf : ℕ → Part → Type 0
IsPartOf count part = (part.start ≤ part.end) × (part.end ≤ count)

-- each part is one of the elements
abbrev pub ArePartsWithin : {X : Type 0} → Inside X → Type 0
ArePartsWithin inside = All (IsPartOf (length inside.elements.items)) inside.parts.items
