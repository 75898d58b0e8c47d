-- What some items have, as the code keeps it where several items can have the same: the values once, and for each item where its own is.
use Rattle.std.specs.Prelude.{◌≡◌, ◌<◌, ℕ, Option, Some, None, List, map, length, slice_get}
use Rattle.mm_frame.specs.declared.shared.Shared.TheInside.{Inside}

-- the values, and for each item where its own is, if it has one
pub record SharedView (X : Type 0) : Type 0 where
  pub values : List X
  pub places : List (Option ℕ)

-- the value at a place, if there is a place
abbrev pub value_at : {X : Type 0} → List X → Option ℕ → Option X
value_at values None = None
value_at values (Some place) = slice_get values place

-- the value of each item, if it has one
abbrev pub shared_values : {X : Type 0} → SharedView X → List (Option X)
shared_values shared = map (value_at shared.values) shared.places

abbrev pub shared_inside : {X : Type 0} → Inside X → SharedView X
shared_inside inside = record { values = inside.values.items; places = inside.places }

-- each place is one of the values
abbrev pub ArePlacesWithin : {X : Type 0} → Inside X → Type 0
ArePlacesWithin inside = (n place : ℕ) → slice_get inside.places n ≡ Some (Some place) → place < length inside.values.items
