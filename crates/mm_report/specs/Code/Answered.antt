-- How far a command of a script is answered, and how far a script is.
use Rattle.std.specs.Prelude.{◌≡◌, ◌≤◌, ◌++◌, ℕ, true, false, Bool, Option, List, [], Result, OnOk, IfErr, length, unwrap_or, codes}
use Rattle.std.specs.List.{flat_map}
use Rattle.std.specs.Io.KnownBytes.{Appends}
use Rattle.mm_keep.specs.mm_store.declared.edit.EditError.{EditError}
use Rattle.mm_keep.specs.mm_store.declared.edit.EditError.TheVariants as edits
use Rattle.mm_keep.specs.mm_text.Language.Asked.{Asked, edited_text}
use Rattle.mm_keep.specs.mm_statement.Language.Database.{Located, IsDatabase}
use Rattle.mm_keep.specs.mm_statement.Language.Item.{Said}
use Rattle.mm_keep.specs.mm_frame.Language.Base.{BaseView, base_of}
use Rattle.mm_keep.specs.Language.Sessions.{SessionView, AreAxiomsOf, AreCitesOf, AreUsersOf}
use Rattle.mm_script.specs.declared.command.Question.{Question}
use Rattle.mm_script.specs.declared.command.Question.TheVariants.{Verdict, Axioms, Cites, Users}
use Rattle.mm_script.specs.declared.error.ScriptError.{ScriptError}
use Rattle.mm_script.specs.declared.error.ScriptError.TheVariants as errors
use Rattle.mm_script.specs.declared.read_stream.Reading.{Reading}
use Rattle.mm_script.specs.declared.stream.Writing.{Writing}
use Rattle.mm_report.specs.Language.Answers.{IsAnswer}
use Rattle.mm_script.specs.Language.Script.{Command, Done, CutShort, BadLine}
use Rattle.mm_report.specs.Language.Scripting.{AnswersScript, AnswersRead, AnswersFirst, BeginsAnswers}
use Rattle.mm_script.specs.Language.Stream.{written, has_failed, unread, cannot_read, AppendsPart, Writes}

-- a fault of a text that is reported is at one of its bytes, or at its end
abbrev pub IsToldIn : List ℕ → EditError → Type 0
IsToldIn text (edits.Text fault) = fault.at ≤ length text
IsToldIn text _ = Unit {0}

-- the text that an edit brings; no bytes if it brings none
abbrev pub text_brought : Asked → List ℕ
text_brought asked = unwrap_or (edited_text asked) []

-- these bytes are written, which the items of a session's files give; or the write of them has failed
abbrev pub WritesOf : {W T E : Type 0} → (W → Option (List ℕ)) → SessionView → (BaseView → List ℕ) → Writing W → Writing W → Result T E → Type 0
WritesOf contents session bytes old new result =
    (items : List Located) → IsDatabase session.files session.top items → Writes contents old new result (bytes (base_of items))

-- a line with the label of each item
abbrev pub label_lines : List Said → List ℕ
label_lines items = flat_map (λ item. unwrap_or item.label [] ++ codes "\n") items

-- the question is one for items, and these are their numbers
abbrev pub Finds : SessionView → Question → List ℕ → List ℕ → Type 0
Finds session Axioms label numbers = AreAxiomsOf session label numbers
Finds session Cites label numbers = AreCitesOf session label numbers
Finds session Users label numbers = AreUsersOf session label numbers
Finds session Verdict label numbers = ⊥

-- an answer to a command is written that leaves the session as it is; or the write of it has failed
pub record WritesAnswer {W T E : Type 0} (contents : W → Option (List ℕ)) (session : SessionView) (command : Command) (old new : Writing W)
    (result : Result T E) : Type 0 where
  pub answer : List ℕ
  pub is : IsAnswer session command answer session
  pub writes : Writes contents old new result answer

-- a command is answered, and the answer is written
pub record IsAnswered (old new : SessionView) (command : Command) (before after : Option (List ℕ)) : Type 0 where
  pub answer : List ℕ
  pub is : IsAnswer old command answer new
  pub out : Appends before after answer

-- a command is answered, and a beginning of the answer is written, or all of it
pub record BeginsAnswer (old new : SessionView) (command : Command) (before after : Option (List ℕ)) : Type 0 where
  pub answer : List ℕ
  pub is : IsAnswer old command answer new
  pub out : AppendsPart before after answer

-- why a command is not answered, or not in full: a write has failed in its answer, or after it; or out of memory, and nothing is done
abbrev pub FailsSo : {W : Type 0} → (W → Option (List ℕ)) → Command → SessionView → SessionView → Writing W → Writing W → ScriptError → Type 0
FailsSo contents command old new before after errors.Write =
    (has_failed after ≡ true) × BeginsAnswer old new command (written contents before) (written contents after)
FailsSo contents command old new before after errors.Memory = (new ≡ old) × (after ≡ before)
FailsSo contents command old new before after _ = ⊥

-- a command is answered; or it is not, or not in full
pub record Answers {W T : Type 0} (contents : W → Option (List ℕ)) (command : Command) (old new : SessionView) (before after : Writing W)
    (result : Result T ScriptError) : Type 0 where
  pub ok : OnOk result (IsAnswered old new command (written contents before) (written contents after))
  pub err : IfErr result (FailsSo contents command old new before after)

-- the first commands of a script are answered, and these bytes are read and not answered yet
pub record HasAnswered (old new : SessionView) (unread left before after : Option (List ℕ)) (pending : List ℕ) : Type 0 where
  pub first : AnswersFirst old new unread left before after
  pub rest : first.rest ≡ pending

-- if more may follow, the first commands are answered; else the whole script is
abbrev pub AnswersSoFar : SessionView → SessionView → Option (List ℕ) → Option (List ℕ) → Option (List ℕ) → Option (List ℕ) → List ℕ → Bool → Type 0
AnswersSoFar old new all left before after pending true = HasAnswered old new all left before after pending
AnswersSoFar old new all left before after pending false = AnswersScript old new all Done before after

-- why a script is not answered to its end, and how far it is
abbrev pub StopsAnswering : {R W : Type 0} → (R → Option (List ℕ)) → (W → Option (List ℕ)) → SessionView → SessionView → Option (List ℕ) → Reading R
    → Option (List ℕ) → Writing W → ScriptError → Type 0
StopsAnswering remaining contents old new all reading before writing errors.BadLine =
    AnswersScript old new all BadLine before (written contents writing)
StopsAnswering remaining contents old new all reading before writing errors.Cut =
    AnswersScript old new all CutShort before (written contents writing)
StopsAnswering remaining contents old new all reading before writing errors.Read =
    AnswersRead old new all (unread remaining reading) before (written contents writing) × (cannot_read reading ≡ true)
StopsAnswering remaining contents old new all reading before writing errors.Write =
    BeginsAnswers old new all (unread remaining reading) before (written contents writing) × (has_failed writing ≡ true)
StopsAnswering remaining contents old new all reading before writing errors.Memory =
    AnswersFirst old new all (unread remaining reading) before (written contents writing)
