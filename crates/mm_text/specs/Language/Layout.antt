-- The layout of a text: white space and runs, alternating.
use Rattle.std.specs.Prelude.{◌≡◌, ℕ, ◌+◌, ◌<◌, true, false, List, [], ◌∷◌, ◌++◌, length}
use Rattle.std.specs.List.{AllByRecursion}
use Rattle.mm_text.specs.Language.Run.{Run, is_white, ends_run}

-- white space, or no bytes
abbrev pub IsGap : List ℕ → Type 0
IsGap bytes = AllByRecursion (λ b. is_white b ≡ true) bytes

-- bytes from a place on begin with white space, or none, and then this run, after which white space or the end comes
pub record BeginsWith (at : ℕ) (bytes : List ℕ) (run : Run) (Later : List ℕ → Type 0) : Type 0 where
  pub gap : List ℕ
  pub later : List ℕ
  pub joined : bytes ≡ gap ++ (run.bytes ++ later)
  pub white : IsGap gap
  pub solid : AllByRecursion (λ b. is_white b ≡ false) run.bytes
  pub some : 0 < length run.bytes
  pub place : run.start ≡ at + length gap
  pub ends : ends_run later ≡ true
  pub goes_on : Later later

-- bytes from a place on are laid out as these runs: white space, a run, white space, and so on, to the end
abbrev pub IsLaidOut : ℕ → List ℕ → List Run → Type 0
IsLaidOut at bytes [] = IsGap bytes
IsLaidOut at bytes (run ∷ runs) = BeginsWith at bytes run (λ later. IsLaidOut (run.start + length run.bytes) later runs)
