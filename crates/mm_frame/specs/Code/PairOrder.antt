-- The variables of the `$f` of a frame, as the code keeps them.
use Rattle.std.specs.Prelude.{ℕ, Bool, if◌then◌else◌, List, [], flat_map, nat_eq, slice_get, option_to_list}
use Rattle.std.specs.List.{list_any}
use Rattle.mm_machine.specs.declared.symbol.NumberedSymbol.{NumberedSymbol}
use Rattle.mm_frame.specs.Code.KeptLists.{item_list}

-- the number is one of these
abbrev pub is_among : List ℕ → ℕ → Bool
is_among numbers n = list_any (nat_eq n) numbers

-- the variable of a `$f`, from what is kept for it: none if the number is one of the active `$e`
abbrev pub float_variable : List ℕ → List (List NumberedSymbol) → ℕ → List NumberedSymbol
float_variable essentials expressions n = if is_among essentials n then [] else option_to_list (slice_get (item_list expressions n) 1)

-- the variables of the `$f` among some hypotheses, in order
abbrev pub float_variables : List ℕ → List (List NumberedSymbol) → List ℕ → List NumberedSymbol
float_variables essentials expressions numbers = flat_map (float_variable essentials expressions) numbers
