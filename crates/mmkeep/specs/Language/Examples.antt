-- What commands do with the small database of mm_report's examples, and how the program then ends.
use Rattle.std.specs.Prelude.{◌≡◌, ℕ, List, [], ◌∷◌, Some, None, String, codes, map, string_bytes, ⊤}
use Rattle.std.specs.Borrow.{Bor}
use Rattle.mm_report.specs.mm_script.declared.error.ScriptError.TheVariants as errors
use Rattle.mm_report.specs.mm_script.declared.read_stream.Reading.{Reading}
use Rattle.mm_report.specs.Language.Examples.{unproved, proved, one_incomplete, five_commands, five_answers}
use Rattle.mmkeep.specs.declared.arguments.Invocation.TheVariants.{Verify, Axioms, Session}
use Rattle.mmkeep.specs.declared.outcome.Outcome.TheVariants.{Clean, Findings, Input, Memory, NoLabel, Stream, Words}
use Rattle.mmkeep.specs.Language.Asking.{file_of, given, words_of}
use Rattle.mmkeep.specs.Language.Performing.{AllInOrder, IsCutOff, IsDone, IsInOrderAfter, ReadsForSession}
use Rattle.mmkeep.specs.Language.Status.{outcome_of, outcome_of_unloaded, status_of}
use Rattle.mmkeep.specs.declared.unloaded.Unloaded.TheVariants as unloaded

-- a word of the command line
abbrev pub word : List ℕ → Bor (List ℕ)
word bytes = record { ref_ptr = (0, 0); now = bytes }

-- `verify` writes the report, which has a line before its summary: so the program ends with findings.
abbrev pub VerifyFinds : Type 0
VerifyFinds = IsDone (Verify (word (codes "d.mm"))) unproved unproved None (Some []) (Some one_incomplete) Findings

-- `axioms` writes the one axiom of the theorem, and the program ends clean.
abbrev pub AxiomsLists : Type 0
AxiomsLists = IsDone (Axioms (word (codes "d.mm")) (word (codes "no"))) proved proved None (Some []) (Some (codes "found 1\nax\n")) Clean

-- `session` answers the script. After it the report has no line before its summary: so the program ends clean.
abbrev pub SessionEnds : Type 0
SessionEnds = IsDone (Session (word (codes "d.mm"))) unproved proved (Some five_commands) (Some []) (Some five_answers) Clean

-- Then no item is at fault, and labels derive both theorems. A clean end of a session says so; one of `axioms` says nothing of other theorems.
abbrev pub IsInOrderThen : Type 0
IsInOrderThen =
    AllInOrder proved × IsInOrderAfter (Session (word (codes "d.mm"))) proved × IsInOrderAfter (Verify (word (codes "d.mm"))) proved
    × IsInOrderAfter (Axioms (word (codes "d.mm")) (word (codes "no"))) unproved

-- `verify` leaves what can be read as it was, and a session may read of it.
abbrev pub ReadsNothing : Type 0
ReadsNothing = (old new : List ℕ) → (ReadsForSession (Verify (word (codes "d.mm"))) old new → new ≡ old)
    × ReadsForSession (Session (word (codes "d.mm"))) old new

-- A write of the report fails when 13 bytes of it have gone out.
abbrev pub IsCutThere : Type 0
IsCutThere = IsCutOff (Verify (word (codes "d.mm"))) unproved unproved None None (Some []) (Some (codes "incomplete no")) errors.Write

-- The first argument is the name of the program, and what is given comes after it.
abbrev pub GivesWords : Type 0
GivesWords = (name verb file : String ⊤) → given (name ∷ verb ∷ file ∷ []) ≡ string_bytes verb ∷ string_bytes file ∷ []

-- The words of the three commands, and the file of each.
abbrev pub HasTheseWords : Type 0
HasTheseWords =
    (words_of (Verify (word (codes "d.mm"))) ≡ codes "verify" ∷ codes "d.mm" ∷ [])
    × (words_of (Axioms (word (codes "d.mm")) (word (codes "no"))) ≡ codes "axioms" ∷ codes "d.mm" ∷ codes "no" ∷ [])
    × (words_of (Session (word (codes "d.mm"))) ≡ codes "session" ∷ codes "d.mm" ∷ [])
    × (file_of (Axioms (word (codes "d.mm")) (word (codes "no"))) ≡ codes "d.mm")

-- Each end of the program has its status. A script ends in four ways with status 5, and in one with status 4; files that are not loaded end
-- it with status 2, or 4.
abbrev pub HasThisStatus : Type 0
HasThisStatus =
    (map status_of (Clean ∷ Findings ∷ NoLabel ∷ Input ∷ Words ∷ Memory ∷ Stream ∷ []) ≡ 0 ∷ 1 ∷ 1 ∷ 2 ∷ 3 ∷ 4 ∷ 5 ∷ [])
    × (map (λ error. status_of (outcome_of error)) (errors.BadLine ∷ errors.Cut ∷ errors.Read ∷ errors.Write ∷ errors.Memory ∷ []) ≡ 5 ∷ 5 ∷ 5 ∷ 5 ∷ 4 ∷ [])
    × ((reading : Reading ℕ)
    → map (λ error. status_of (outcome_of_unloaded error)) (unloaded.Input ∷ unloaded.Read reading ∷ unloaded.Memory ∷ []) ≡ 2 ∷ 2 ∷ 4 ∷ [])
