-- What a grammar does with a word: it keeps the state of the reading of units.
use Rattle.std.specs.Prelude.{◌≡◌, ◌≢◌, ℕ, ◌-◌, Bool, true, false, List, [], ◌∷◌, ◌++◌, length, take, Option, Some, None, Result, Ok, Err}
use Rattle.mm_text.specs.declared.grammar.Grammar.{Grammar}
use Rattle.mm_text.specs.declared.word.Keyword.TheVariants.{BlockStart, BlockEnd}
use Rattle.mm_text.specs.declared.word.WordKind.{WordKind}
use Rattle.mm_text.specs.declared.word.WordKind.TheVariants as kinds
use Rattle.mm_text.specs.declared.word.Word.{Word}
use Rattle.mm_text.specs.declared.fault.TextFault.{TextFault}
use Rattle.mm_text.specs.declared.fault.TextError.{TextError}
use Rattle.mm_text.specs.declared.fault.TextError.TheVariants as errors
use Rattle.mm_text.specs.declared.fault.TextNumber.{TextNumber}
use Rattle.mm_text.specs.declared.fault.TextNumber.TheVariants.{T07, T08}
use Rattle.mm_text.specs.Code.UnitReading.{Phase, Begin, Symbols, Expression, UnitStep, next}

-- the phase that a step leads to
abbrev pub phase_of : UnitStep → Result Phase TextNumber
phase_of (Ok state) = Ok state.0
phase_of (Err number) = Err number

-- for the phase it is enough to know whether a block is open
abbrev pub level : Bool → ℕ
level true = 0
level false = 1

-- a plain word changes nothing in this phase
abbrev pub is_within : Phase → Bool
is_within Symbols = true
is_within Expression = true
is_within _ = false

-- where the unit of a word begins, if the word begins here
abbrev pub first_behind : Phase → ℕ → ℕ → ℕ
first_behind Begin first start = start
first_behind _ first start = first

-- where the open blocks begin, after a word that begins here
abbrev pub blocks_behind : WordKind → List ℕ → ℕ → List ℕ
blocks_behind (kinds.Keyword BlockStart) blocks start = blocks ++ start ∷ []
blocks_behind (kinds.Keyword BlockEnd) blocks start = take (length blocks - 1) blocks
blocks_behind _ blocks start = blocks

-- a word is taken
pub record TakesUnit (old : Grammar) (word : Word) (could_label : Bool) (new : Grammar) : Type 0 where
  pub phase : phase_of (next old.phase (length old.blocks.items) word.kind could_label) ≡ Ok new.phase
  pub first : new.first ≡ first_behind old.phase old.first word.start
  pub blocks : new.blocks.items ≡ blocks_behind word.kind old.blocks.items word.start

-- a word is refused
pub record Refuses (old : Grammar) (word : Word) (could_label : Bool) (fault : TextFault) : Type 0 where
  pub number : phase_of (next old.phase (length old.blocks.items) word.kind could_label) ≡ Err fault.number
  pub at : fault.at ≡ word.start

abbrev pub GrammarTakes : Grammar → Word → Bool → Result (Unit {0}) TextError → Grammar → Type 0
GrammarTakes old word could_label (Ok _) new = TakesUnit old word could_label new
GrammarTakes old word could_label (Err (errors.Fault fault)) new = Refuses old word could_label fault
GrammarTakes old word could_label (Err errors.Memory) new = Unit {0}

-- a unit is not finished, or a block is not closed
abbrev pub EndsWith : Grammar → TextNumber → ℕ → Type 0
EndsWith g T07 at = (g.phase ≢ Begin) × (at ≡ g.first)
EndsWith g T08 at = (g.phase ≡ Begin) × (outer : List ℕ) × (g.blocks.items ≡ outer ++ at ∷ [])
EndsWith g _ at = ⊥

-- the fault at the end, if there is one
abbrev pub EndsAs : Grammar → Option TextFault → Type 0
EndsAs g None = (g.phase ≡ Begin) × (g.blocks.items ≡ [])
EndsAs g (Some fault) = EndsWith g fault.number fault.at
