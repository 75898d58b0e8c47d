-- An assertion that is cited, as the code has it.
use Rattle.std.specs.Prelude.{◌≡◌, ◌≢◌, ℕ, ◌+◌, ◌≤◌, ◌<◌, true, false, Option, Some}
use Rattle.std.specs.Prelude.{None, List, length, slice_get, All, Contains}
use Rattle.std.specs.List.{AllZip}
use Rattle.mm_machine.specs.Language.Frame.{Symbol, Mandatory, Frame, HasVariable}
use Rattle.mm_machine.specs.Language.Typing.{IsTyped, IsTyping}
use Rattle.mm_machine.specs.Language.Substitution.{substituted}
use Rattle.mm_machine.specs.Language.Derivation.{AreApart}
use Rattle.mm_machine.specs.Language.Faults.{AnyZip, CitingFails, last_entries, row_of}
use Rattle.mm_machine.specs.declared.ProofNumber.{ProofNumber}
use Rattle.mm_machine.specs.declared.pattern.{Entry.{Entry}, Given.{Given}}

-- the hypothesis is the `$f` of this variable
abbrev pub IsTypingOf : Mandatory → Symbol → Type 0
IsTypingOf h v = (h.floating ≡ true) × (slice_get h.expression 1 ≡ Some v)

-- the first so many hypotheses that are `$f` give: the number of the variable of each has what the entry has after its typecode, and its place
abbrev pub AreGiven : List Symbol → List Mandatory → List Entry → List Given → ℕ → Type 0
AreGiven variables hs entries given count = (k : ℕ) (h : Mandatory) (v : Symbol) (n : ℕ) → k < count → slice_get hs k ≡ Some h → IsTypingOf h v →
    slice_get variables n ≡ Some v → (e : Entry) × (slice_get entries k ≡ Some e) × (e.start < e.end) ×
    (slice_get given n ≡ Some (record { start = e.start + 1; end = e.end; place = k }))

-- what is known of the hypotheses of a frame
pub record AreAllTyped (hs : List Mandatory) : Type 0 where
  pub typings : All (λ h. h.floating ≡ true → IsTyping h.expression) hs
  pub typed : (h : Mandatory) → Contains hs h → (v : Symbol) → HasVariable h.expression v → IsTyped hs v

-- the substitution gives the entry of each `$f`
abbrev pub GivesEntries : (Symbol → List Symbol) → List Mandatory → List (List Symbol) → Type 0
GivesEntries given hs es = AllZip (λ h e. h.floating ≡ true → substituted given h.expression ≡ e) hs es

-- the hypotheses before this place are `$f`
abbrev pub AreFloating : List Mandatory → ℕ → Type 0
AreFloating hs n = (k : ℕ) (h : Mandatory) → k < n → slice_get hs k ≡ Some h → h.floating ≡ true

-- an entry of a `$f` has another typecode
abbrev pub OtherTypecode : Mandatory → List Symbol → Type 0
OtherTypecode h e = (h.floating ≡ true) × (slice_get h.expression 0 ≢ slice_get e 0)

-- an entry of a `$e` is not the `$e` under the substitution
abbrev pub OtherEssential : (Symbol → List Symbol) → Mandatory → List Symbol → Type 0
OtherEssential given h e = (h.floating ≡ false) × (substituted given h.expression ≢ e)

-- the lowest number that holds if the frame is cited after this stack
abbrev pub IsLowestCiting : List (Symbol × Symbol) → Frame → List (List Symbol) → ProofNumber → Type 0
IsLowestCiting active frame stack number = CitingFails 1000000 active frame stack number
    × ((other : ProofNumber) → CitingFails 1000000 active frame stack other →
    row_of number ≤ row_of other)

-- what is found of a citation that has its entries, but for the length of its result: nothing is wrong, or what is wrong first
abbrev pub CitingSays : List (Symbol × Symbol) → Frame → List (List Symbol) → Option ProofNumber → Type 0
CitingSays active frame es None = (AnyZip OtherTypecode frame.hypotheses es → ⊥) × ((given : Symbol → List Symbol) → GivesEntries given frame.hypotheses es →
    (AnyZip (OtherEssential given) frame.hypotheses es → ⊥) × All (λ pair. AreApart active (given pair.0) (given pair.1)) frame.pairs)
CitingSays active frame es (Some number) = (stack : List (List Symbol)) → length frame.hypotheses ≤ length stack → last_entries frame stack ≡ es →
    IsLowestCiting active frame stack number
