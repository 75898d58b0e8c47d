-- Formal systems, and what is provable in them (Metamath book, Appendix C). A statement is a frame: its expression, its hypotheses and its
-- pairs.
use Rattle.std.specs.Prelude.{◌≡◌, ◌≢◌, true, false, Option, Some, List, [], ◌∷◌, ◌++◌, Contains}
use Rattle.std.specs.List.{flat_map}
use Rattle.mm_frame.specs.mm_machine.Language.Frame.{Symbol, Mandatory, Frame, ArePair, HasVariable}
use Rattle.mm_frame.specs.mm_machine.Language.Substitution.{substituted}

-- A formal system: which typecode each variable has, if it has one, and the axiomatic statements.
pub record System : Type 0 where
  pub typecode : Symbol → Option Symbol
  pub axioms : List Frame

-- the lists are kept apart: they share no variable, and each variable of the one is paired with each of the other
abbrev pub AreApartBy : (Symbol → Symbol → Type 0) → List Symbol → List Symbol → Type 0
AreApartBy IsPair xs ys = (x y : Symbol) → HasVariable xs x → HasVariable ys y → (x ≢ y) × IsPair x y

-- The expression is in the closure of hypotheses: it is a typecode and a variable that has it; or one of the hypotheses; or what a
-- substitution makes of an axiomatic statement. Then what the substitution makes of the statement's hypotheses is in the closure, and what
-- it gives for the two variables of each of the statement's pairs is kept apart.
pub data IsInClosure (system : System) (IsPair : Symbol → Symbol → Type 0) (hypotheses : List Mandatory) : List Symbol → Type 0 where
  by_type : {c v : Symbol} → system.typecode v ≡ Some c → IsInClosure system IsPair hypotheses (c ∷ v ∷ [])
  by_hypothesis : {h : Mandatory} → Contains hypotheses h → IsInClosure system IsPair hypotheses h.expression
  by_axiom :
      {frame : Frame} {given : Symbol → List Symbol} → Contains system.axioms frame →
      ((h : Mandatory) → Contains frame.hypotheses h → IsInClosure system IsPair hypotheses (substituted given h.expression)) →
      ((v w : Symbol) → ArePair frame.pairs v w → AreApartBy IsPair (given v) (given w)) →
      IsInClosure system IsPair hypotheses (substituted given frame.expression)

-- all symbols of a statement: those of its expression and of its hypotheses
abbrev pub symbols_of : Frame → List Symbol
symbols_of frame = frame.expression ++ flat_map (λ h. h.expression) frame.hypotheses

-- two variables may be paired in a proof of the statement: they are one of its pairs, or one of them is a dummy, which is not in the statement
abbrev pub MayBePaired : Frame → Symbol → Symbol → Type 0
MayBePaired frame x y = Contains (symbols_of frame) x → Contains (symbols_of frame) y → ArePair frame.pairs x y

-- the statement is provable: its expression is in the closure of its hypotheses; a proof may use all variables, and any pair with a dummy
-- in it
abbrev pub IsProvable : System → Frame → Type 0
IsProvable system frame = IsInClosure system (MayBePaired frame) frame.hypotheses frame.expression

-- a renaming to fresh variables: to variables with the same typecodes, one to one, none of them in the list
pub record IsFresh (system : System) (taken : List Symbol) (to : Symbol → Symbol) : Type 0 where
  pub variable : (v : Symbol) → (to v).variable ≡ true
  pub one_to_one : (v w : Symbol) → v.variable ≡ true → w.variable ≡ true → to v ≡ to w → v ≡ w
  pub keeps_types : (c v : Symbol) → system.typecode v ≡ Some c → system.typecode (to v) ≡ Some c
  pub outside : (v : Symbol) → Contains taken (to v) → ⊥

-- what the book asks of a formal system: typecodes are constants, only variables have one, and there are variables without end of each
pub record IsSystem (system : System) : Type 0 where
  pub typing : (c v : Symbol) → system.typecode v ≡ Some c → (c.variable ≡ false) × (v.variable ≡ true)
  pub endless : (taken : List Symbol) → (to : Symbol → Symbol) × IsFresh system taken to

-- what the book asks of a statement: each of its variables has a `$f` among its hypotheses, with the typecode that the system gives it
pub record IsStatement (system : System) (frame : Frame) : Type 0 where
  pub has_float :
      (v : Symbol) → HasVariable (symbols_of frame) v
      → (c : Symbol) × (system.typecode v ≡ Some c) × ((h : Mandatory) × Contains frame.hypotheses h × (h.expression ≡ c ∷ v ∷ []))
