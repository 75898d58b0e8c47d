-- What a command does with a session: what it writes, and how the program then ends.
use Rattle.std.specs.Prelude.{◌≡◌, ◌≢◌, ◌<◌, ◌⊎◌, ◌++◌, ℕ, List, [], length, Option, Some, None, ⊤}
use Rattle.std.specs.Io.KnownBytes.{Appends, Keeps}
use Rattle.mm_report.specs.mm_statement.Language.Database.{Located, IsDatabase}
use Rattle.mm_report.specs.mm_frame.Language.Base.{base_of}
use Rattle.mm_report.specs.mm_keep.Language.Sessions.{SessionView, HasAssertion}
use Rattle.mm_report.specs.mm_keep.Language.Told.{Told, AreRightlyTold}
use Rattle.mm_report.specs.mm_script.declared.error.ScriptError.{ScriptError}
use Rattle.mm_report.specs.mm_script.declared.error.ScriptError.TheVariants as errors
use Rattle.mm_report.specs.Language.Answers.{IsAnswer}
use Rattle.mm_report.specs.Language.Laws.{IsInOrder}
use Rattle.mm_report.specs.Language.Report.{IsReport, BeginsReport, lines, names_of}
use Rattle.mm_report.specs.mm_script.Language.Script as script
use Rattle.mm_report.specs.mm_script.declared.command.Question.TheVariants as questions
use Rattle.mm_report.specs.Language.Scripting.{AnswersScript, AnswersFirst, AnswersRead, BeginsAnswers}
use Rattle.mm_report.specs.mm_script.Language.Stream.{AppendsPart}
use Rattle.mmkeep.specs.declared.arguments.Invocation.{Invocation}
use Rattle.mmkeep.specs.declared.arguments.Invocation.TheVariants.{Verify, Axioms, Session}
use Rattle.mmkeep.specs.declared.outcome.Outcome.{Outcome}
use Rattle.mmkeep.specs.declared.outcome.Outcome.TheVariants.{Clean, Findings, NoLabel}

-- a session alone reads: another command leaves the reading as it is
abbrev pub ReadsForSession : {R : Type 0} → Invocation → R → R → Type 0
ReadsForSession (Session top) old new = ⊤
ReadsForSession _ old new = new ≡ old

-- clean if there are no lines before the summary of a report, and findings if there are some
abbrev pub IsByLines : List ℕ → Outcome → Type 0
IsByLines lines Clean = lines ≡ []
IsByLines lines Findings = lines ≢ []
IsByLines lines _ = ⊥

-- how the program ends by the files of a session: clean if its report has no line before the summary, and else findings
pub record IsJudged (session : SessionView) (outcome : Outcome) : Type 0 where
  pub items : List Located
  pub of_files : IsDatabase session.files session.top items
  pub all : List Told
  pub are_told : AreRightlyTold session.files items all
  pub is : IsByLines (lines (names_of session.files) (base_of items) all) outcome

-- no item of the files of a session is at fault, and some labels derive the statement of each theorem
pub record AllInOrder (session : SessionView) : Type 0 where
  pub items : List Located
  pub of_files : IsDatabase session.files session.top items
  pub each : (i : ℕ) → i < length items → IsInOrder (base_of items) i

-- the report of a session is written
pub record Reports (session : SessionView) (before after : Option (List ℕ)) (outcome : Outcome) : Type 0 where
  pub bytes : List ℕ
  pub is_report : IsReport session bytes
  pub out : Appends before after bytes
  pub is_judged : IsJudged session outcome

-- clean if a sound assertion has the label, and no label if none has
abbrev pub IsByLabel : SessionView → List ℕ → Outcome → Type 0
IsByLabel session label Clean = HasAssertion session label
IsByLabel session label NoLabel = ¬ HasAssertion session label
IsByLabel session label _ = ⊥

-- the axioms to which the citations of the assertion with a label lead are written, or that there is no such assertion
pub record ListsAxioms (session : SessionView) (label : List ℕ) (before after : Option (List ℕ)) (outcome : Outcome) : Type 0 where
  pub answer : List ℕ
  pub is_answer : IsAnswer session (script.Ask questions.Axioms label) answer session
  pub out : Appends before after answer
  pub is_by_label : IsByLabel session label outcome

-- the beginning of the answer on axioms, or all of it, is written
pub record BeginsAxioms (session : SessionView) (label : List ℕ) (before after : Option (List ℕ)) : Type 0 where
  pub answer : List ℕ
  pub is_answer : IsAnswer session (script.Ask questions.Axioms label) answer session
  pub out : AppendsPart before after answer

-- a script is answered to its end
pub record EndsScript (old new : SessionView) (unread before after : Option (List ℕ)) (outcome : Outcome) : Type 0 where
  pub answers : AnswersScript old new unread script.Done before after
  pub is_judged : IsJudged new outcome

-- a script is answered up to where it stops
abbrev pub StopsScript : SessionView → SessionView → Option (List ℕ) → Option (List ℕ) → Option (List ℕ) → Option (List ℕ) → ScriptError → Type 0
StopsScript old new unread left before after errors.BadLine = AnswersScript old new unread script.BadLine before after
StopsScript old new unread left before after errors.Cut = AnswersScript old new unread script.CutShort before after
StopsScript old new unread left before after errors.Read = AnswersRead old new unread left before after
StopsScript old new unread left before after errors.Write = BeginsAnswers old new unread left before after
StopsScript old new unread left before after errors.Memory = AnswersFirst old new unread left before after

-- A command is done: from what the session, a script's reader and the writer had before to what they have after it, with this outcome.
abbrev pub IsDone : Invocation → SessionView → SessionView → Option (List ℕ) → Option (List ℕ) → Option (List ℕ) → Outcome → Type 0
IsDone (Verify file) old new unread before after outcome = (new ≡ old) × Reports old before after outcome
IsDone (Axioms file label) old new unread before after outcome = (new ≡ old) × ListsAxioms old label.now before after outcome
IsDone (Session file) old new unread before after outcome = EndsScript old new unread before after outcome

-- what a clean end of a command says of the files after it: all is in order; after a list of axioms nothing is said of them
abbrev pub IsInOrderAfter : Invocation → SessionView → Type 0
IsInOrderAfter (Verify file) session = AllInOrder session
IsInOrderAfter (Axioms file label) session = ⊤
IsInOrderAfter (Session file) session = AllInOrder session

-- a report stops only at a write that fails, and its beginning is written
abbrev pub StopsReport : SessionView → Option (List ℕ) → Option (List ℕ) → ScriptError → Type 0
StopsReport session before after errors.Write = BeginsReport session before after
StopsReport session before after _ = ⊥

-- a list of axioms stops at a write that fails, or for memory before anything is written; for memory only if an assertion has the label
abbrev pub StopsAxioms : SessionView → List ℕ → Option (List ℕ) → Option (List ℕ) → ScriptError → Type 0
StopsAxioms session label before after errors.Write = BeginsAxioms session label before after
StopsAxioms session label before after errors.Memory = Keeps before after × (¬ HasAssertion session label → ⊥)
StopsAxioms session label before after _ = ⊥

-- A command stops at an error.
abbrev pub IsStopped :
    Invocation → SessionView → SessionView → Option (List ℕ) → Option (List ℕ) → Option (List ℕ) → Option (List ℕ) → ScriptError → Type 0
IsStopped (Verify file) old new unread left before after error = (new ≡ old) × StopsReport old before after error
IsStopped (Axioms file label) old new unread left before after error = (new ≡ old) × StopsAxioms old label.now before after error
IsStopped (Session file) old new unread left before after error = StopsScript old new unread left before after error

-- what went out, if it is known, is the beginning of these bytes
abbrev pub GoesOut : Option (List ℕ) → Option (List ℕ) → Type 0
GoesOut None out = ⊤
GoesOut (Some bytes) None = ⊥
GoesOut (Some bytes) (Some out) = (rest : List ℕ) × (bytes ≡ out ++ rest)

-- A command stops at an error, or is done and what it wrote does not go out: the beginning of what it wrote has gone out.
pub record IsCutOff (command : Invocation) (old new : SessionView) (unread left before after : Option (List ℕ)) (error : ScriptError) : Type 0 where
  pub written : Option (List ℕ)
  pub why : IsStopped command old new unread left before written error
      ⊎ ((error ≡ errors.Write) × (outcome : Outcome) × IsDone command old new unread before written outcome)
  pub goes_out : GoesOut written after
