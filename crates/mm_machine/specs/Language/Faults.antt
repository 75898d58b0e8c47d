-- The faults of a step: what each number says of a step and the stack before it.
use Rattle.std.specs.Prelude.{◌≡◌, ◌≢◌, ℕ, ◌<◌, ◌≤◌, ◌-◌, ◌⊎◌, true, false, List, [], ◌∷◌, length, drop, Any, slice_get}
use Rattle.std.specs.List.{AllZip}
use Rattle.mm_machine.specs.Language.Frame.{Symbol, Frame, LabelMeaning, Assertion, Setting, ArePair, HasVariable}
use Rattle.mm_machine.specs.Language.Substitution.{substituted}
use Rattle.mm_machine.specs.Language.Derivation.{ShareVariable}
use Rattle.mm_machine.specs.Language.Expansion.{Step, Named, Save}
use Rattle.mm_machine.specs.declared.ProofNumber.{ProofNumber}
use Rattle.mm_machine.specs.declared.ProofNumber.TheVariants.{P01, P02, P03, P04, P05, P06, P07, P08, P09, P10, P11, P12, P13, P14, P15}

-- the relation holds between some member of the one list and the member of the other with the same number
abbrev pub AnyZip : {A B : Type 0} → (A → B → Type 0) → List A → List B → Type 0
AnyZip R [] ys = ⊥
AnyZip R (x ∷ xs) [] = ⊥
AnyZip R (x ∷ xs) (y ∷ ys) = R x y ⊎ AnyZip R xs ys

-- the entries that a frame takes: as many of the last as it has mandatory hypotheses
abbrev pub last_entries : Frame → List (List Symbol) → List (List Symbol)
last_entries frame stack = drop (length stack - length frame.hypotheses) stack

-- there is a substitution that makes each mandatory `$f` its entry, and this holds of it
abbrev pub UnderSubstitution : Frame → List (List Symbol) → ((Symbol → List Symbol) → Type 0) → Type 0
UnderSubstitution frame entries P =
    (given : Symbol → List Symbol) × AllZip (λ h e. h.floating ≡ true → substituted given h.expression ≡ e) frame.hypotheses entries × P given

-- two different variables, one from each list, that are no active pair
abbrev pub LackPair : List (Symbol × Symbol) → List Symbol → List Symbol → Type 0
LackPair active xs ys = (x y : Symbol) × HasVariable xs x × HasVariable ys y × (x ≢ y) × (ArePair active x y → ⊥)

-- the table of faults of a citation, a line for each number. P07: there are too few entries. P08: the typecode of an entry is not that of
-- its `$f`. P09: an `$e` does not become its entry. P10: two expressions that have to be apart share a variable. P11: a pair of their
-- variables is not active. P12: the result has more than `longest` symbols, its typecode counted
abbrev pub CitingFails : ℕ → List (Symbol × Symbol) → Frame → List (List Symbol) → ProofNumber → Type 0
-- fewer entries than mandatory hypotheses
CitingFails longest active frame stack P07 = length stack < length frame.hypotheses
-- an entry of a `$f` has another typecode
CitingFails longest active frame stack P08 = AnyZip (λ h e. (h.floating ≡ true) × (slice_get h.expression 0 ≢ slice_get e 0))
    frame.hypotheses (last_entries frame stack)
-- an entry of a `$e` is not the `$e` under the substitution
CitingFails longest active frame stack P09 =
    UnderSubstitution frame (last_entries frame stack)
    (λ given. AnyZip (λ h e. (h.floating ≡ false) × (substituted given h.expression ≢ e)) frame.hypotheses (last_entries frame stack))
-- what the two variables of a mandatory pair stand for shares a variable
CitingFails longest active frame stack P10 = UnderSubstitution frame (last_entries frame stack)
    (λ given. Any (λ pair. ShareVariable (given pair.0) (given pair.1)) frame.pairs)
-- what the variables of a mandatory pair stand for has two different variables, one from each, that are no active pair
CitingFails longest active frame stack P11 =
    UnderSubstitution frame (last_entries frame stack) (λ given. Any (λ pair. LackPair active (given pair.0) (given pair.1)) frame.pairs)
-- the result has more symbols than the longest one may have
CitingFails longest active frame stack P12 = UnderSubstitution frame (last_entries frame stack) (λ given. longest < length (substituted given frame.expression))
CitingFails longest active frame stack _ = ⊥

-- the faults of a label as a step: only an assertion has some. Its result may have 1,000,000 symbols
abbrev pub LabelFails : List (Symbol × Symbol) → LabelMeaning → List (List Symbol) → ProofNumber → Type 0
LabelFails active (Assertion frame) stack number = CitingFails 1000000 active frame stack number
LabelFails active _ stack number = ⊥

-- the fault of this number holds of this step, if these entries are reached before it. A label has those of its assertion; a save has P13 if there
-- is nothing to save
abbrev pub StepLineHolds : Setting → Step → List (List Symbol) → ProofNumber → Type 0
StepLineHolds place (Named label) stack number = LabelFails place.active (place.resolve label) stack number
StepLineHolds place Save stack P13 = stack ≡ []
StepLineHolds place _ stack _ = ⊥

-- the place of a number in the table
abbrev pub row_of : ProofNumber → ℕ
row_of P01 = 1
row_of P02 = 2
row_of P03 = 3
row_of P04 = 4
row_of P05 = 5
row_of P06 = 6
row_of P07 = 7
row_of P08 = 8
row_of P09 = 9
row_of P10 = 10
row_of P11 = 11
row_of P12 = 12
row_of P13 = 13
row_of P14 = 14
row_of P15 = 15

-- of the faults of the step this number is the lowest
pub record IsLowest (place : Setting) (step : Step) (stack : List (List Symbol)) (number : ProofNumber) : Type 0 where
  pub holds : StepLineHolds place step stack number
  pub lowest : (other : ProofNumber) → StepLineHolds place step stack other → row_of number ≤ row_of other
