-- What the code's steps and faults stand for.
use Rattle.std.specs.Prelude.{◌≡◌, ℕ, Result, Ok, Err, List, length, drop, map}
use Rattle.mm_machine.specs.Language.Expansion.{Step}
use Rattle.mm_verdict.specs.Language.Letters.{groups, letters_from}
use Rattle.mm_verdict.specs.Code.Left.{AreLeft}
use Rattle.mm_verdict.specs.Language.Decoding.{Steps, in_order, readings_of_groups, word_spot}
use Rattle.mm_machine.specs.Language.NamedSteps.{meant}
use Rattle.mm_machine.specs.declared.Spot.{Spot}
use Rattle.mm_machine.specs.declared.ProofNumber.{ProofNumber}
use Rattle.mm_machine.specs.declared.step.Action.{Action}
use Rattle.mm_machine.specs.declared.step.ProofStep.{ProofStep}
use Rattle.mm_verdict.specs.declared.undecoded.Undecoded.{Undecoded}
use Rattle.mm_verdict.specs.declared.undecoded.Undecoded.TheVariants as errors

-- the step that an action stands for, or its fault
abbrev pub meant_or : List Step → Result Action ProofNumber → Result Step ProofNumber
meant_or names (Ok action) = Ok (meant names action)
meant_or names (Err number) = Err number

-- the steps with their spots
abbrev pub meant_steps : List Step → List ProofStep → List (Step × Spot)
meant_steps names steps = map (λ step. (meant names step.action, step.spot)) steps

-- a fault that is reported is the fault; out of memory reports none
abbrev pub TellsSteps : Undecoded → Steps → Type 0
TellsSteps (errors.Fault fault) steps = steps ≡ Err fault
TellsSteps errors.Memory steps = Unit {0}

-- what the letters of a proof give, which go from the word with the number `from` on
abbrev pub letters_give : List Step → List (List ℕ) → ℕ → Steps
letters_give names words from = in_order (readings_of_groups names (word_spot (length words)) 0 (groups (letters_from from (drop from words))))

-- this holds of what the words that are left give as letters, for as many names as there are labels
abbrev pub LettersGive : ℕ → List (List ℕ) → ℕ → (List Step → Steps → Type 0) → Type 0
LettersGive labels left from holds =
    (names : List Step) (words : List (List ℕ)) → length names ≡ labels → AreLeft words left from → holds names (letters_give names words from)
