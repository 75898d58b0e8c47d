-- What the code keeps of the variables of a frame: the place of each, by the number of its name.
use Rattle.std.specs.Prelude.{◌≡◌, ℕ, suc, if◌then◌else◌, nat_lt, nat_eq, Option, Some, List, [], map, flat_map, filter, drop, slice_get, option_to_list}
use Rattle.std.specs.HashMap.{get}
use Rattle.mm_frame.specs.declared.places.Places.{Places}
use Rattle.mm_machine.specs.declared.symbol.NumberedSymbol.{NumberedSymbol}
use Rattle.mm_frame.specs.Language.Marks.{Mark}
use Rattle.mm_frame.specs.Code.BlockMarks.{stays_by}
use Rattle.mm_frame.specs.Code.KeptLists.{item_list}

-- the place that is kept for the name with a number
abbrev pub place_of : Places → ℕ → Option ℕ
place_of places name = get nat_eq places.places name

-- each symbol is found by its name, and no other name is
pub record ArePlaces (symbols : List NumberedSymbol) (places : Places) : Type 0 where
  pub each : (k : ℕ) (symbol : NumberedSymbol) → slice_get symbols k ≡ Some symbol → place_of places symbol.name ≡ Some k
  pub only : (k name : ℕ) → place_of places name ≡ Some k → (symbol : NumberedSymbol) × (slice_get symbols k ≡ Some symbol) × (symbol.name ≡ name)

-- the place of a symbol, if it is after this one
abbrev pub later_place : Places → ℕ → NumberedSymbol → List ℕ
later_place places from symbol = filter (nat_lt from) (option_to_list (place_of places symbol.name))

-- the places after this one of the variables of an active `$d`
abbrev pub later_places_at : Places → List Mark → List (List NumberedSymbol) → ℕ → ℕ → List ℕ
later_places_at places marks expressions from n =
    if stays_by (drop (suc n) marks) then flat_map (later_place places from) (item_list expressions n) else []

-- the pair of a variable with the one at a place
abbrev pub pair_at : NumberedSymbol → List NumberedSymbol → ℕ → List (NumberedSymbol × NumberedSymbol)
pair_at first variables k = map (λ y. (first, y)) (option_to_list (slice_get variables k))
