-- From the states of the code to those of the language.
use Rattle.std.specs.Prelude.{◌≡◌, ℕ, Bool, true, false, Option, Some, None, refl}
use Rattle.std.specs.Coded.{Coded, code_by, coded_ℕ, coded_bool, coded_option, coded×}
use Rattle.mm_store.specs.declared.state.State.{State}
use Rattle.mm_store.specs.declared.state.State.TheVariants as code
use Rattle.mm_store.specs.declared.state.EditKind.{EditKind}
use Rattle.mm_store.specs.declared.state.EditKind.TheVariants as kinds
use Rattle.mm_store.specs.Language.Pieces.{Removal, Replaced, Deleted, PieceState, Standing, Parked}

abbrev pub removal_of : EditKind → Removal
removal_of kinds.Replaced = Replaced
removal_of kinds.Deleted = Deleted

abbrev pub piece_state : State → PieceState
piece_state code.Standing = Standing
piece_state (code.Parked file kind) = Parked file (removal_of kind)

abbrev pub is_deleted : Removal → Bool
is_deleted Replaced = false
is_deleted Deleted = true

abbrev pub removal_by : Bool → Removal
removal_by false = Replaced
removal_by true = Deleted

-- the file and the removal of a piece that is parked
abbrev pub parking : PieceState → Option (ℕ × Bool)
parking Standing = None
parking (Parked file removal) = Some (file, is_deleted removal)

abbrev pub state_by : Option (ℕ × Bool) → PieceState
state_by None = Standing
state_by (Some found) = Parked found.0 (removal_by found.1)

pub state_back : (state : PieceState) → state_by (parking state) ≡ state
state_back Standing = refl
state_back (Parked file Replaced) = refl
state_back (Parked file Deleted) = refl

-- a state is known by how it is parked
abbrev pub state_code : Coded PieceState
state_code = code_by (Option (ℕ × Bool)) (coded_option (coded× coded_ℕ coded_bool)) parking state_by state_back
