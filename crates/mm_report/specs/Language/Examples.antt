-- A small database in one file of six pieces: its report, an edit of it, and the answers of a script.
use Rattle.std.specs.Prelude.{◌≡◌, ℕ, Some, None, List, [], ◌∷◌, ◌++◌, codes, replicate}
use Rattle.std.specs.Borrow.{Bor}
use Rattle.mm_keep.specs.mm_text.Language.Asked.{Asked, Replace, Delete}
use Rattle.mm_keep.specs.mm_store.declared.batch.BatchError.TheVariants as batch
use Rattle.mm_keep.specs.mm_store.declared.edit.EditError.TheVariants.{Memory, NoPiece}
use Rattle.mm_keep.specs.mm_statement.Language.Database.{Located, IsDatabase}
use Rattle.mm_keep.specs.mm_frame.Language.Base.{base_of}
use Rattle.mm_keep.specs.mm_frame.declared.FrameNumber.TheVariants.{F12}
use Rattle.mm_keep.specs.mm_machine.declared.ProofNumber.TheVariants.{P07}
use Rattle.mm_keep.specs.declared.finding.At.{At}
use Rattle.mm_keep.specs.declared.finding.Finding.TheVariants as code
use Rattle.mm_keep.specs.Language.Derivable.{IsDerivable, IsLabelDerivable}
use Rattle.mm_keep.specs.Language.Findings.{counted, told}
use Rattle.mm_keep.specs.Language.Refusals.{IsBatchRefusal, IsRefusal}
use Rattle.mm_keep.specs.Language.Resting.{RestsOn}
use Rattle.mm_keep.specs.Language.Sessions.{SessionView, HasItem, HasItems, IsBegun, IsChanged, IsCount, IsFinding, IsLabelOfItem, IsTally, OfItems}
use Rattle.mm_keep.specs.Language.Told.{Told, AreRightlyTold, AnAxiom, Counts, Fault, Incomplete, Proved, Quiet, Wrong, counts}
use Rattle.mm_script.specs.declared.command.Question.TheVariants.{Axioms}
use Rattle.mm_script.specs.Language.Script.{Command, Change, Batch, Ask, Done}
use Rattle.mm_report.specs.Language.Answers.{IsAnswer, IsScriptAnswer}
use Rattle.mm_report.specs.Language.Report.{IsReport, fault_line, lines, names_of, summary, wrong_line}

-- a session of one file, `d.mm`: a `$c`, a `$v`, a `$f`, an axiom, a theorem with its proof, and a last piece
abbrev pub ending_in : List ℕ → SessionView
ending_in last = record {
  files =
      record {
        name = codes "d.mm";
        pieces =
            codes "$c |- wff $.\n" ∷ codes "$v p $.\n" ∷ codes "wp $f wff p $.\n" ∷ codes "ax $a |- p $.\n" ∷ codes "th $p |- p $= wp ax $.\n"
            ∷ last ∷ [];
        tail = [];
      }
      ∷ [];
  top = codes "d.mm";
}

-- the last piece is a theorem whose proof has one step, which is not known
abbrev pub unproved : SessionView
unproved = ending_in (codes "no $p |- p $= ? $.\n")

-- the last piece is that theorem with a proof
abbrev pub proved : SessionView
proved = ending_in (codes "no $p |- p $= wp ax $.\n")

-- the edit that puts the proof there, by a text without the line feed at its end
abbrev pub gives_proof : Asked
gives_proof = Replace (codes "d.mm") 5 (codes "no $p |- p $= wp ax $.")

-- two edits at once: the file has no piece with number 9, and after the first edit it has five
abbrev pub deletes_two : Command
deletes_two = Batch (record { blanks = 0; edit = Delete (codes "d.mm") 5 } ∷ record { blanks = 0; edit = Delete (codes "d.mm") 9 } ∷ [])

-- a report: a line for the theorem without a proof, at its `?`, which is in line 6 at column 15; then the counts
abbrev pub one_incomplete : List ℕ
one_incomplete = codes "incomplete no d.mm:6:15\naxioms 1 theorems 2 proved 1 incomplete 1 wrong 0 faults 0\n"

-- This is the report.
abbrev pub HasThisReport : Type 0
HasThisReport = IsReport unproved one_incomplete

-- These are the counts.
abbrev pub CountsSo : Type 0
CountsSo = IsTally unproved (record { axioms = 1; theorems = 2; proved = 1; incomplete = 1; wrong = 0; faults = 0 })

-- It has six items, with numbers up to 5. The last one has a label, and the first has none.
abbrev pub HasSixItems : Type 0
HasSixItems =
    HasItems proved × IsCount proved 6 × HasItem proved 5 × (HasItem proved 6 → ⊥) × IsLabelOfItem proved 5 (Some (codes "no")) × IsLabelOfItem proved 0 None

-- line 6 of the file, column 15, where the `?` is
abbrev pub at_step : At
at_step = record { file = 0; line = 6; column = 15 }

-- This is found of the last item, without a proof and with it. Nothing else is.
abbrev pub FindsLast : Type 0
FindsLast = IsFinding unproved 5 (Incomplete at_step) × (IsFinding unproved 5 Proved → ⊥) × IsFinding proved 5 Proved

-- Labels derive its statement, even where its proof does not; they derive no axiom.
abbrev pub LastIsDerivable : Type 0
LastIsDerivable = IsDerivable unproved 5 × IsLabelDerivable proved (codes "no") × (IsLabelDerivable proved (codes "ax") → ⊥)

-- It rests on the axiom, which has number 3.
abbrev pub LastRestsOnAxiom : Type 0
LastRestsOnAxiom = OfItems proved (λ base. RestsOn base (3 ∷ []) 5)

-- A session begins with the proofs of both theorems: two steps of the one, and none of the other, whose first step is not known.
abbrev pub BeginsWithTwo : Type 0
BeginsWithTwo = IsBegun unproved (record { runs = 4 ∷ 5 ∷ []; steps = 2; room = 0 })

-- The edit runs the proof of `no` alone, in two steps.
abbrev pub ChangesOne : Type 0
ChangesOne = IsChanged unproved proved (record { runs = 5 ∷ []; steps = 2; room = 0 })

-- After it a report has no line before its summary.
abbrev pub HasNoLine : Type 0
HasNoLine = (items : List Located) × IsDatabase proved.files proved.top items × (all : List Told) × AreRightlyTold proved.files items all
    × (lines (names_of proved.files) (base_of items) all ≡ [])

-- The answer to the edit has the label of `no`: the view of `th` is what it was.
abbrev pub RunsOne : Type 0
RunsOne = IsAnswer unproved (Change gives_proof) (codes "ran 1\nno\n") proved

-- The theorem is proved then, and rests on one axiom.
abbrev pub RestsOnOne : Type 0
RestsOnOne = IsAnswer proved (Ask Axioms (codes "no")) (codes "found 1\nax\n") proved

-- The second of the two edits is refused, so neither is done.
abbrev pub RefusesSecond : Type 0
RefusesSecond = IsAnswer proved deletes_two (codes "refused 1 S02 5\n") proved

-- a script: the report, the edit, a verdict, the axioms, and the two edits
abbrev pub five_commands : List ℕ
five_commands =
    codes "report\nreplace d.mm 5 22\nno $p |- p $= wp ax $.\nverdict no\naxioms no\nbatch 2\ndelete d.mm 5\ndelete d.mm 9\n"

-- its answers, one after another
abbrev pub five_answers : List ℕ
five_answers =
    codes "incomplete no d.mm:6:15\naxioms 1 theorems 2 proved 1 incomplete 1 wrong 0 faults 0\nran 1\nno\nproved no\nfound 1\nax\nrefused 1 S02 5\n"

-- The script is answered to its end, and the session after it has the proof.
abbrev pub AnswersFive : Type 0
AnswersFive = IsScriptAnswer unproved five_commands five_answers proved Done

-- Of the two edits the second is refused, and alone it is, too. Memory may run out at an edit of a piece that is there, or if there is no
-- edit. At an edit of a file that is not there it does not.
abbrev pub RefusesSo : Type 0
RefusesSo =
    IsBatchRefusal (Delete (codes "d.mm") 5 ∷ Delete (codes "d.mm") 9 ∷ []) proved.files (batch.Edit 1 (NoPiece 5))
    × IsRefusal (Delete (codes "d.mm") 9) proved.files (NoPiece 6)
    × IsRefusal (Delete (codes "d.mm") 5) proved.files Memory × (IsRefusal (Delete (codes "c.mm") 5) proved.files Memory → ⊥)
    × IsBatchRefusal [] proved.files batch.Memory × (IsBatchRefusal (Delete (codes "c.mm") 5 ∷ []) proved.files batch.Memory → ⊥)

-- one axiom, nine theorems, of which two are proved, three incomplete and four wrong, and five faults
abbrev pub each_count : Counts
each_count = record { axioms = 1; theorems = 9; proved = 2; incomplete = 3; wrong = 4; faults = 5 }

-- What the code finds and counts, as the definitions see it.
abbrev pub FindingsAreSeen : Type 0
FindingsAreSeen =
    (word : Bor (List ℕ))
    → (told code.Quiet ≡ Quiet) × (told code.Axiom ≡ AnAxiom) × (told code.Proved ≡ Proved) × (told (code.Incomplete at_step) ≡ Incomplete at_step)
    × (told (code.Wrong P07 at_step) ≡ Wrong P07 at_step) × (told (code.Fault F12 at_step word) ≡ Fault F12 (record { at = at_step; word = word.now }))
    × (counted (record { axioms = 1; theorems = 9; proved = 2; incomplete = 3; wrong = 4; faults = 5 }) ≡ each_count)

-- Each is counted by its kind, and written behind its word.
abbrev pub CountsEach : Type 0
CountsEach =
    (counts (Quiet ∷ AnAxiom ∷ replicate 2 Proved ++ replicate 3 (Incomplete at_step) ++ replicate 4 (Wrong P07 at_step)
    ++ replicate 5 (Fault F12 (record { at = at_step; word = codes "p" }))) ≡ each_count)
    × (summary each_count ≡ codes "axioms 1 theorems 9 proved 2 incomplete 3 wrong 4 faults 5\n")

-- A line of a wrong proof, and one of a fault, in the second of two files.
abbrev pub WritesLines : Type 0
WritesLines =
    let at : At = record { file = 1; line = 6; column = 15 } in
    (wrong_line (codes "a.mm" ∷ codes "b.mm" ∷ []) (codes "no") P07 at ≡ codes "wrong no b.mm:6:15 P07\n")
    × (fault_line (codes "a.mm" ∷ codes "b.mm" ∷ []) F12 (record { at = at; word = codes "p" }) ≡ codes "fault b.mm:6:15 F12 p\n")
