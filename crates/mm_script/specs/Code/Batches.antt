-- How far the edits of a batch are read.
use Rattle.std.specs.Prelude.{◌≡◌, ◌≤◌, ◌+◌, ℕ, Bool, true, false, Option, List, [], ◌∷◌, ◌++◌, length, take, drop}
use Rattle.std.specs.List.{flat_map}
use Rattle.std.specs.Io.KnownBytes.{IsAtEnd}
use Rattle.mm_script.specs.declared.command.Complete.{Complete}
use Rattle.mm_script.specs.declared.command.EditAt.{EditAt}
use Rattle.mm_script.specs.Code.Growing.{HasBlanks, IsEditRead}
use Rattle.mm_script.specs.Language.Commands.{AreEditsIn, HasNoEntry, StopsSo, rest_of_script}
use Rattle.mm_script.specs.Code.Stops.{AreGoodEdits, AreListed, batch_line}
use Rattle.mm_script.specs.Language.Script.{End, Listed, listed_bytes, IsNumber, LastInLine}

-- the bytes begin with the line of a batch, with some of its edits, which end here
pub record IsBatchFront (bytes : List ℕ) (n : ℕ) (front : List Listed) (at : ℕ) : Type 0 where
  pub listed : AreListed n front
  pub within : at ≤ length bytes
  pub are : take at bytes ≡ batch_line n ++ 10 ∷ flat_map listed_bytes front

-- whatever the batch is of which this many edits are missing, the script has this end
abbrev pub EndsBatch : ℕ → ℕ → List ℕ → List ℕ → Option (List ℕ) → End → Type 0
EndsBatch from missing old new left end = (n : ℕ) (front : List Listed) → IsBatchFront old n front from → n ≡ length front + missing
    → StopsSo (rest_of_script new left) end

-- whatever the batch is of which this many edits are missing, the bytes are not whole
abbrev pub HoldsBatch : ℕ → ℕ → List ℕ → List ℕ → Type 0
HoldsBatch from missing old new = (n : ℕ) (front : List Listed) → IsBatchFront old n front from → n ≡ length front + missing → HasNoEntry new

-- there is an edit here after empty lines
pub record IsListedRead (bytes : List ℕ) (left : Option (List ℕ)) (from : ℕ) (read : Complete EditAt) : Type 0 where
  pub start : ℕ
  pub blanks : HasBlanks bytes from start
  pub edit : IsEditRead bytes left start read

-- the line of the batch and some of its edits are here up to their end; or all of it up to the end of all, without the last line feed
pub record IsBatchRead (bytes : List ℕ) (left : Option (List ℕ)) (n : ℕ) (found : List EditAt) (end : ℕ) (fed : Bool) : Type 0 where
  pub number : IsNumber n
  pub front : List Listed
  pub good : AreGoodEdits front
  pub edits : AreEditsIn bytes found front
  pub within : end ≤ length bytes
  pub fed_so : fed ≡ true → bytes ≡ batch_line n ++ 10 ∷ (flat_map listed_bytes front ++ drop end bytes)
  pub unfed : fed ≡ false → (bytes ++ 10 ∷ [] ≡ batch_line n ++ 10 ∷ flat_map listed_bytes front) × LastInLine front × IsAtEnd left × (length front ≡ n)
      × (end ≡ length bytes)
