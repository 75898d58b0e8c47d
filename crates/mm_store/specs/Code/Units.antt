-- What a text is read as that an edit brings.
use Rattle.std.specs.Prelude.{◌≡◌, ℕ, ◌+◌, ◌<◌, List, Some, length}
use Rattle.mm_text.specs.Language.Cut.{HoldsOneUnit, ended}
use Rattle.mm_store.specs.declared.edit.EditError.{EditError}
use Rattle.mm_store.specs.declared.edit.EditError.TheVariants.{NoFile, NoPiece, Text, NotOne, TooMany, Memory}
use Rattle.mm_store.specs.Language.Edits.{HasUnitCount, BringsFault, BringsNotOne}

-- the text is one unit, and this is all of it
pub record IsUnit (text unit : List ℕ) : Type 0 where
  pub one : HasUnitCount text 1
  pub whole : unit ≡ ended text
  pub holds : HoldsOneUnit unit

-- why a text is not one unit
abbrev pub IsUnitError : List ℕ → EditError → Type 0
IsUnitError text (Text fault) = BringsFault (Some text) fault
IsUnitError text (NotOne count) = BringsNotOne (Some text) count
IsUnitError text Memory = Unit {0}
IsUnitError text NoFile = ⊥
IsUnitError text (NoPiece count) = ⊥
IsUnitError text TooMany = ⊥

-- why a text does not become a piece of files that already hold this many bytes
abbrev pub IsTextRefused : ℕ → List ℕ → EditError → Type 0
IsTextRefused held text (Text fault) = BringsFault (Some text) fault
IsTextRefused held text (NotOne count) = BringsNotOne (Some text) count
IsTextRefused held text TooMany = HasUnitCount text 1 × (4294967295 < held + length (ended text))
IsTextRefused held text Memory = Unit {0}
IsTextRefused held text NoFile = ⊥
IsTextRefused held text (NoPiece count) = ⊥
