-- What is known of the frame of a sound assertion: each of its variables is typed by exactly one mandatory `$f`.
use Rattle.std.specs.Prelude.{◌≡◌, ◌≢◌, ℕ, true, false, List, [], ◌∷◌, Contains, All, AllPairs, slice_get}
use Rattle.mm_machine.specs.Language.Frame.{Symbol, Mandatory, Frame, Assertion, Setting, HasVariable}

-- the variable has a mandatory `$f`
abbrev pub IsTyped : List Mandatory → Symbol → Type 0
IsTyped hypotheses v = (c : Symbol) × (c.variable ≡ false) × Contains hypotheses (record { floating = true; expression = c ∷ v ∷ [] })

-- the expression is a constant and a variable
abbrev pub IsTyping : List Symbol → Type 0
IsTyping e = (c v : Symbol) × (e ≡ c ∷ v ∷ []) × (c.variable ≡ false) × (v.variable ≡ true)

-- what is known of the frame of a sound assertion
pub record IsFrame (frame : Frame) : Type 0 where
  pub expression_typed : (v : Symbol) → HasVariable frame.expression v → IsTyped frame.hypotheses v
  pub hypotheses_typed : (h : Mandatory) → Contains frame.hypotheses h → (v : Symbol) → HasVariable h.expression v → IsTyped frame.hypotheses v
  pub pairs_typed : All (λ pair. (pair.0.variable ≡ true) × (pair.1.variable ≡ true)
      × IsTyped frame.hypotheses pair.0 × IsTyped frame.hypotheses pair.1) frame.pairs
  pub typings : All (λ h. h.floating ≡ true → IsTyping h.expression) frame.hypotheses
  pub typed_once : AllPairs (λ h g. h.floating ≡ true → g.floating ≡ true → slice_get h.expression 1 ≢ slice_get g.expression 1) frame.hypotheses

-- each label that means an assertion at this place means one with such a frame
abbrev pub HasFrames : Setting → Type 0
HasFrames place = (label : List ℕ) (frame : Frame) → place.resolve label ≡ Assertion frame → IsFrame frame
