-- What the code's reader of letters has read, and what the letters that are left make of it.
use Rattle.std.specs.Prelude.{◌≡◌, ℕ, ◌+◌, ◌-◌, ◌^◌, ◌≤◌, min, false, Result, List, length, vec_capacity}
use Rattle.mm_machine.specs.Language.Expansion.{Step}
use Rattle.mm_verdict.specs.Language.Letters.{Letter}
use Rattle.mm_verdict.specs.Language.Decoding.{Steps, nameable}
use Rattle.mm_verdict.specs.Language.Numbers.{is_digit}
use Rattle.mm_verdict.specs.Code.LeftToRight.{read_behind, read_on, with_steps}
use Rattle.mm_verdict.specs.Code.Coded.{meant_or, meant_steps}
use Rattle.mm_machine.specs.declared.ProofNumber.{ProofNumber}
use Rattle.mm_machine.specs.declared.step.Action.{Action}
use Rattle.mm_machine.specs.declared.Spot.{Spot}
use Rattle.mm_verdict.specs.declared.letters.LetterReader.{LetterReader}

-- The labels that numbers name, the spot after the letters, and what all letters give.
pub record Aim : Type 0 where
  pub names : List Step
  pub close : Spot
  pub total : Steps

-- with the letters that are left the reader gives the total
pub record ReadsLetters (aim : Aim) (reader : LetterReader) (letters : List Letter) : Type 0 where
  pub digits : ℕ
  pub labels_are : length aim.names ≡ reader.labels
  pub digits_are : reader.digits ≡ min digits (2 ^ 64 - 1)
  pub rest : with_steps (meant_steps aim.names reader.steps.items) (read_on aim.names aim.close reader.saves digits letters) ≡ aim.total

-- the letter with this byte is no digit, and this is what is read at it
pub record IsFound (aim : Aim) (reader : LetterReader) (byte : ℕ) (found : Result Action ProofNumber) : Type 0 where
  pub other : is_digit byte ≡ false
  pub says : (n : ℕ) → length aim.names ≡ reader.labels → reader.digits ≡ min n (2 ^ 64 - 1)
      → meant_or aim.names found ≡ read_behind (nameable aim.names reader.saves) n byte

-- there is room for so many steps more
abbrev pub HasRoom : ℕ → LetterReader → Type 0
HasRoom n reader = length reader.steps.items + n ≤ vec_capacity reader.steps
