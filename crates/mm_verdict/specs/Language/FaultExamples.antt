-- Wrong proofs, and one that is incomplete: each fault P01 to P15 by a proof or a step that has it.
--
-- P06 is among the examples of a compressed proof.
use Rattle.std.specs.Prelude.{◌≡◌, ℕ, false, if◌then◌else◌, Result, Err, List, [], ◌∷◌, ◌++◌, bytes_eq, codes}
use Rattle.mm_frame.specs.Language.Examples.{database, labelled_item, letter_symbols, p, q, r, typing, unlabelled_item}
use Rattle.mm_frame.specs.Language.Framing.{setting}
use Rattle.mm_frame.specs.mm_statement.Language.Item.{BlockEnd, BlockStart, Essential}
use Rattle.mm_machine.specs.Language.Derivation.{Takes}
use Rattle.mm_machine.specs.Language.Expansion.{Named}
use Rattle.mm_machine.specs.Language.Faults.{CitingFails, IsLowest, StepLineHolds}
use Rattle.mm_machine.specs.Language.Frame.{Frame, Setting, Symbol}
use Rattle.mm_machine.specs.Language.Verdict.{Decoded, IsVerdict}
use Rattle.mm_machine.specs.declared.ProofNumber.{ProofNumber}
use Rattle.mm_machine.specs.declared.ProofNumber.TheVariants.{P01, P02, P03, P04, P05, P07, P08, P09, P10, P11, P12, P13, P14, P15}
use Rattle.mm_machine.specs.declared.Spot.{Spot}
use Rattle.mm_machine.specs.declared.Verdict.TheVariants.{Incomplete, Wrong}
use Rattle.mm_machine.specs.declared.step.ProofFault.{ProofFault}
use Rattle.mm_verdict.specs.Language.Decoding.{decoding}
use Rattle.mm_verdict.specs.Language.VerdictAt.{AreDoneIn}

-- the place of the proofs: behind the database of mm_frame's examples and `${ h $e w p $. $}`
abbrev pub here : Setting
here = setting (database ++ unlabelled_item BlockStart [] ∷ labelled_item (codes "h") Essential (codes "wp") ∷ unlabelled_item BlockEnd [] ∷ [])

-- what words decode to there, as the proof of a theorem with the mandatory hypothesis `wp`
abbrev pub decoded_here : List (List ℕ) → Result Decoded ProofFault
decoded_here words = decoding here (codes "wp" ∷ []) words

-- a letter of a word, each by its number
abbrev pub spot_of : ℕ → ℕ → Spot
spot_of word letter = record { word = word; letter = letter }

-- the fault with this number at this spot
abbrev pub fault_of : ProofNumber → Spot → Result Decoded ProofFault
fault_of number spot = Err (record { number = number; spot = spot })

-- ---- faults of decoding

-- P01: `no` is no label.
abbrev pub IsNoLabel : Type 0
IsNoLabel = decoded_here (codes "wp" ∷ codes "no" ∷ []) ≡ fault_of P01 (spot_of 1 0)

-- P02: the hypothesis `h` is no longer active. It is the first of two faults.
abbrev pub IsEnded : Type 0
IsEnded = decoded_here (codes "h" ∷ codes "no" ∷ []) ≡ fault_of P02 (spot_of 0 0)

-- P03: no `)` ends the list. The spot is the end of the proof.
abbrev pub HasNoEnd : Type 0
HasNoEnd = decoded_here (codes "(" ∷ codes "wi" ∷ codes "wp" ∷ []) ≡ fault_of P03 (spot_of 3 0)

-- P04: `a` is no letter of a proof.
abbrev pub IsNoLetter : Type 0
IsNoLetter = decoded_here (codes "(" ∷ codes ")" ∷ codes "AUa" ∷ []) ≡ fault_of P04 (spot_of 2 2)

-- P05: the letters end behind a digit, or a `Z` comes behind one.
abbrev pub IsCutNumber : Type 0
IsCutNumber =
    (decoded_here (codes "(" ∷ codes ")" ∷ codes "AU" ∷ []) ≡ fault_of P05 (spot_of 3 0)) ×
    (decoded_here (codes "(" ∷ codes ")" ∷ codes "AUZ" ∷ []) ≡ fault_of P05 (spot_of 2 2))

-- ---- faults of a step

-- P07: `wi` takes two entries, and there is one. Two are enough.
abbrev pub LacksEntry : Type 0
LacksEntry =
    StepLineHolds here (Named (codes "wi")) (letter_symbols (codes "wp") ∷ []) P07 ×
    (StepLineHolds here (Named (codes "wi")) (letter_symbols (codes "wp") ∷ letter_symbols (codes "wq") ∷ []) P07 → ⊥)

-- P08: the second entry of `wi` begins with `(`, and its `$f` with `w`. An entry below the two that are taken may begin with what it likes.
abbrev pub HasOtherTypecode : Type 0
HasOtherTypecode =
    StepLineHolds here (Named (codes "wi")) (letter_symbols (codes "wp") ∷ letter_symbols (codes "(p") ∷ []) P08 ×
    (StepLineHolds here (Named (codes "wi")) (letter_symbols (codes "(p") ∷ letter_symbols (codes "wp") ∷ letter_symbols (codes "wq") ∷ []) P08 → ⊥)

-- Of two faults, too few entries and another typecode, the lower number counts.
abbrev pub TellsLowest : Type 0
TellsLowest = StepLineHolds here (Named (codes "wi")) (letter_symbols (codes "(p") ∷ []) P08
    × IsLowest here (Named (codes "wi")) (letter_symbols (codes "(p") ∷ []) P07

-- `w p` and the `$e` `( p` give `> p`
abbrev pub rule : Frame
rule = record {
  expression = letter_symbols (codes ">p");
  hypotheses = typing (codes "wp") ∷ record { floating = false; expression = letter_symbols (codes "(p") } ∷ [];
  pairs = [];
}

-- P09: with `q` for `p` the `$e` is `( q`, and its entry is `( r`.
abbrev pub IsOtherEssential : Type 0
IsOtherEssential = CitingFails 1000000 [] rule (letter_symbols (codes "wq") ∷ letter_symbols (codes "(r") ∷ []) P09

-- `w p` and `w q` give `w ( p > q )` if `p` and `q` are apart
abbrev pub split : Frame
split = record { expression = letter_symbols (codes "w(p>q)"); hypotheses = typing (codes "wp") ∷ typing (codes "wq") ∷ []; pairs = (p, q) ∷ [] }

-- `q` for `p`, and `r` for each other variable
abbrev pub q_and_r : Symbol → List Symbol
q_and_r s = if bytes_eq s.name (codes "p") then (q ∷ []) else (r ∷ [])

-- P10: `p` and `q` have to be apart, and both become `r`.
abbrev pub IsShared : Type 0
IsShared = CitingFails 1000000 [] split (letter_symbols (codes "wr") ∷ letter_symbols (codes "wr") ∷ []) P10

-- P11: `p` becomes `q`, `q` becomes `r`, and these are no active pair.
abbrev pub IsNoActivePair : Type 0
IsNoActivePair = CitingFails 1000000 [] split (letter_symbols (codes "wq") ∷ letter_symbols (codes "wr") ∷ []) P11

-- With this pair active, in the other order, the assertion takes them.
abbrev pub IsTakenWithPair : Type 0
IsTakenWithPair = Takes 1000000 ((r, q) ∷ []) split q_and_r (letter_symbols (codes "wq") ∷ letter_symbols (codes "wr") ∷ []) (letter_symbols (codes "w(q>r)"))

-- `w p` gives `w p )`
abbrev pub bracketed : Frame
bracketed = record { expression = letter_symbols (codes "wp)"); hypotheses = typing (codes "wp") ∷ []; pairs = [] }

-- If results may have three symbols, `w q )` is taken: the typecode counts as one.
abbrev pub ThreeAreTaken : Type 0
ThreeAreTaken =
    Takes 3 [] bracketed (λ s. q ∷ []) (letter_symbols (codes "wq") ∷ []) (letter_symbols (codes "wq)")) ×
    (CitingFails 3 [] bracketed (letter_symbols (codes "wq") ∷ []) P12 → ⊥)

-- P12: then `w q q )` is too long, and is not taken.
abbrev pub FourAreTooMany : Type 0
FourAreTooMany =
    CitingFails 3 [] bracketed (letter_symbols (codes "wqq") ∷ []) P12 ×
    ((given : Symbol → List Symbol) (result : List Symbol) → Takes 3 [] bracketed given (letter_symbols (codes "wqq") ∷ []) result → ⊥)

-- ---- verdicts

-- P13: a `Z` before any entry has nothing to save. That step is done, so one step is.
abbrev pub SavesNothing : Type 0
SavesNothing =
    let found = decoded_here (codes "(" ∷ codes ")" ∷ codes "Z" ∷ []) in
    IsVerdict here (letter_symbols (codes "wp")) found (Wrong P13 (spot_of 2 0)) × AreDoneIn here found 1

-- P14: the proof leaves two entries.
abbrev pub LeavesTwo : Type 0
LeavesTwo = IsVerdict here (letter_symbols (codes "wp")) (decoded_here (codes "wp" ∷ codes "wp" ∷ [])) (Wrong P14 (spot_of 2 0))

-- P15: the proof of `w q` leaves `w p`.
abbrev pub LeavesAnother : Type 0
LeavesAnother = IsVerdict here (letter_symbols (codes "wq")) (decoded_here (codes "wp" ∷ [])) (Wrong P15 (spot_of 1 0))

-- A proof is incomplete at its first `?`. The step before it is done.
abbrev pub EndsAtUnknown : Type 0
EndsAtUnknown =
    let found = decoded_here (codes "wp" ∷ codes "?" ∷ codes "wi" ∷ codes "?" ∷ []) in
    IsVerdict here (letter_symbols (codes "wp")) found (Incomplete (spot_of 1 0)) × AreDoneIn here found 1
