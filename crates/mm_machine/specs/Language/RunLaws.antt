-- What is proved of steps that are run, and of numbers in place of names: each is the contract of a function.
use Rattle.std.specs.Prelude.{◌≡◌, ◌≢◌, ℕ, ◌<◌, ◌↔◌, Some, List, length, map, take, slice_get, All}
use Rattle.mm_machine.specs.declared.symbol.NumberedSymbol.{NumberedSymbol}
use Rattle.mm_machine.specs.declared.stepping.RunOutcome.{RunOutcome}
use Rattle.mm_machine.specs.Language.Frame.{Symbol, Frame, Setting, AreSamePairs}
use Rattle.mm_machine.specs.Language.Typing.{IsFrame, HasFrames}
use Rattle.mm_machine.specs.Language.Names.{AreDistinct}
use Rattle.mm_machine.specs.Language.NumberedSymbols.{by_number, all_by_number, symbols_of, kept_pairs, IsNumbered, IsPairNumbered, AreInOrder}
use Rattle.mm_machine.specs.Language.Expansion.{Step, NotKnown}
use Rattle.mm_machine.specs.Language.Machine.{AreDecoded, AreDecodedAfter}
use Rattle.mm_machine.specs.Language.Run.{run_part}
use Rattle.mm_machine.specs.Language.Reaches.{Reaches}
use Rattle.mm_machine.specs.Language.Renaming.{renamed_frame, renamed_pairs, renamed_setting}
use Rattle.mm_machine.specs.Language.Numbering.{unnaming}
use Rattle.mm_machine.specs.Language.Keys.{AreInKeyOrder, key_by_number}
use Rattle.mm_machine.specs.Language.CodeLists.{meant_pairs}
use Rattle.mm_machine.specs.Language.NamedSteps.{RunSays}

-- Symbols by number, read by the names and then renamed to numbers, are the symbols whose names are these numbers.
abbrev pub NumbersNameSymbols : Type 0
NumbersNameSymbols =
    (names : List (List ℕ)) → AreDistinct names → (kept : List NumberedSymbol) → All (IsNumbered names) kept →
    map (unnaming names) (symbols_of names kept) ≡ all_by_number kept

-- Pairs that are the same by names are the same by numbers.
abbrev pub NumbersKeepPairs : Type 0
NumbersKeepPairs =
    (names : List (List ℕ)) → AreDistinct names → (kept : List (NumberedSymbol × NumberedSymbol)) (pairs : List (Symbol × Symbol)) →
    All (IsPairNumbered names) kept → AreSamePairs (kept_pairs names kept) pairs →
    AreSamePairs (meant_pairs by_number kept) (renamed_pairs (unnaming names) pairs)

-- Pairs in the order of the numbers of their names are in the order of their keys.
abbrev pub NumbersKeepOrder : Type 0
NumbersKeepOrder = (kept : List (NumberedSymbol × NumberedSymbol)) → AreInOrder kept → AreInKeyOrder key_by_number (meant_pairs by_number kept)

-- A frame with typed variables is one with numbers in place of names, too.
abbrev pub NumbersKeepFrames : Type 0
NumbersKeepFrames = (names : List (List ℕ)) (frame : Frame) → IsFrame frame → IsFrame (renamed_frame (unnaming names) frame)

-- If each label of an assertion has a frame with typed variables, it has one with numbers in place of names.
abbrev pub NumbersKeepPlaces : Type 0
NumbersKeepPlaces = (names : List (List ℕ)) (place : Setting) → HasFrames place → HasFrames (renamed_setting (unnaming names) place)

-- What a run says by numbers, it says by names.
abbrev pub NumbersSayTheSame : Type 0
NumbersSayTheSame =
    (names : List (List ℕ)) (place : Setting) (steps : List Step) (statement : List Symbol) (outcome : RunOutcome) →
    RunSays (renamed_setting (unnaming names) place) steps (map (unnaming names) statement) outcome → RunSays place steps statement outcome

-- no step before step n is a `?`
abbrev pub KnownUpTo : List Step → ℕ → Type 0
KnownUpTo steps n = (k : ℕ) → k < n → slice_get steps k ≢ Some NotKnown

-- The steps that are run are all of them exactly if none is a `?`. If step n is the first `?`, they are those before it, so it has the number
-- of the steps that are run. Steps that reach something are all run.
pub record PartsAreRun : Type 0 where
  pub known : (steps : List Step) → (run_part steps ≡ steps) ↔ KnownUpTo steps (length steps)
  pub unknown : (steps : List Step) (n : ℕ) → slice_get steps n ≡ Some NotKnown → KnownUpTo steps n →
      (run_part steps ≡ take n steps) × (length (run_part steps) ≡ n)
  pub reached : (place : Setting) (steps : List Step) (stack : List (List Symbol)) → Reaches place steps stack → run_part steps ≡ steps

-- Steps are as decoding leaves them exactly if this holds from step to step, with a count of the saves.
abbrev pub SureByCounting : Type 0
SureByCounting = (place : Setting) (steps : List Step) → AreDecodedAfter place 0 steps ↔ AreDecoded place steps
