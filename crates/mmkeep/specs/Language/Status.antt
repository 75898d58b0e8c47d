-- How the program ends, and its exit status.
use Rattle.std.specs.Prelude.{ℕ}
use Rattle.mm_report.specs.mm_script.declared.error.ScriptError.{ScriptError}
use Rattle.mm_report.specs.mm_script.declared.error.ScriptError.TheVariants as errors
use Rattle.mmkeep.specs.declared.outcome.Outcome.{Outcome}
use Rattle.mmkeep.specs.declared.outcome.Outcome.TheVariants.{Clean, Findings, NoLabel, Input, Words, Memory, Stream}
use Rattle.mmkeep.specs.declared.unloaded.Unloaded.{Unloaded}
use Rattle.mmkeep.specs.declared.unloaded.Unloaded.TheVariants as unloaded

-- 0 if nothing is wrong, 1 if something in the database is or no assertion has the label that is asked for; 2 for a file, 3 for the
-- arguments, 4 for memory and 5 for a script or a stream
abbrev pub status_of : Outcome → ℕ
status_of Clean = 0
status_of Findings = 1
status_of NoLabel = 1
status_of Input = 2
status_of Words = 3
status_of Memory = 4
status_of Stream = 5

-- the outcome of a script that is not answered to its end
abbrev pub outcome_of : ScriptError → Outcome
outcome_of errors.BadLine = Stream
outcome_of errors.Cut = Stream
outcome_of errors.Read = Stream
outcome_of errors.Write = Stream
outcome_of errors.Memory = Memory

-- the outcome of files that are not loaded
abbrev pub outcome_of_unloaded : {R : Type 0} → Unloaded R → Outcome
outcome_of_unloaded unloaded.Input = Input
outcome_of_unloaded (unloaded.Read reading) = Input
outcome_of_unloaded unloaded.Memory = Memory
