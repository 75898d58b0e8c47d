-- One step: what a label does to the stack of expressions that the labels before it derive (Metamath book, section 4.1.4).
use Rattle.std.specs.Prelude.{◌≡◌, List, [], ◌∷◌, ◌++◌}
use Rattle.mm_machine.specs.Language.Frame.{Symbol, Frame, LabelMeaning, Hypothesis, Assertion, Inactive, Unknown}
use Rattle.mm_machine.specs.Language.Derivation.{Takes}

-- the last entries are taken by the frame, and its result takes their place
pub record Cites (active : List (Symbol × Symbol)) (frame : Frame) (stack next : List (List Symbol)) : Type 0 where
  pub below : List (List Symbol)
  pub entries : List (List Symbol)
  pub result : List Symbol
  pub given : Symbol → List Symbol
  pub before : stack ≡ below ++ entries
  pub takes : Takes 1000000 active frame given entries result
  pub after : next ≡ below ++ result ∷ []

-- what a label that means this does
abbrev pub Moves : List (Symbol × Symbol) → LabelMeaning → List (List Symbol) → List (List Symbol) → Type 0
Moves active (Hypothesis e) stack next = next ≡ stack ++ e ∷ []
Moves active (Assertion frame) stack next = Cites active frame stack next
Moves active Inactive stack next = ⊥
Moves active Unknown stack next = ⊥
