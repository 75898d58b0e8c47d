-- The answers of a script: its commands are put to a session, and may edit it.
use Rattle.std.specs.Prelude.{◌≡◌, ◌≢◌, ◌⊎◌, ℕ, unwrap_or, List, [], ◌∷◌, ◌++◌, length, map, codes, decimal}
use Rattle.std.specs.List.{flat_map}
use Rattle.mm_keep.specs.mm_text.Language.Place.{line_at, column_at}
use Rattle.mm_keep.specs.mm_text.declared.fault.TextNumber.{TextNumber}
use Rattle.mm_keep.specs.mm_text.declared.fault.TextNumber.TheVariants.{T01, T02, T03, T04, T05, T06, T07, T08, T09, T10, T11, T12}
use Rattle.mm_keep.specs.mm_store.declared.edit.EditError.{EditError}
use Rattle.mm_keep.specs.mm_store.declared.edit.EditError.TheVariants.{NoFile, NoPiece, Text, NotOne, TooMany, Memory}
use Rattle.mm_keep.specs.mm_store.Language.Answers.{IsEditError}
use Rattle.mm_keep.specs.mm_store.Language.Batches.{IsBatchOf, IsRefusedAt}
use Rattle.mm_keep.specs.mm_text.Language.Asked.{Asked, edited_text}
use Rattle.mm_keep.specs.mm_store.Language.Edits.{IsEditOf}
use Rattle.mm_keep.specs.mm_frame.Language.Base.{BaseView, base_of, said_at}
use Rattle.mm_keep.specs.Language.Runs.{AreRunsOf}
use Rattle.mm_keep.specs.Language.Sessions.{SessionView, OfItems, HasAssertion, IsVerdictOf, AreAxiomsOf, AreCitesOf, AreUsersOf}
use Rattle.mm_keep.specs.Language.Told.{Told, AnAxiom, Proved, Incomplete, Wrong}
use Rattle.mm_report.specs.Language.Report.{names_of, incomplete_line, wrong_line, IsReport}
use Rattle.mm_script.specs.declared.command.Question.{Question}
use Rattle.mm_script.specs.declared.command.Question.TheVariants.{Verdict, Axioms, Cites, Users}
use Rattle.mm_script.specs.Language.Script.{Command, Change, Batch, Report, Ask, End, EndsSo, Entry, IsLongestReading, commands_of}

-- the number of a fault of a text, as it is written
abbrev pub text_code : TextNumber → List ℕ
text_code T01 = codes "T01"
text_code T02 = codes "T02"
text_code T03 = codes "T03"
text_code T04 = codes "T04"
text_code T05 = codes "T05"
text_code T06 = codes "T06"
text_code T07 = codes "T07"
text_code T08 = codes "T08"
text_code T09 = codes "T09"
text_code T10 = codes "T10"
text_code T11 = codes "T11"
text_code T12 = codes "T12"

-- why an edit is refused, as it is written; a fault is reported with its line and column in the text that the edit brings
abbrev pub refusal_words : List ℕ → EditError → List ℕ
refusal_words text NoFile = codes "S01"
refusal_words text (NoPiece count) = codes "S02 " ++ decimal count
refusal_words text (Text fault) =
    codes "S03 " ++ decimal (line_at text fault.at) ++ codes ":" ++ decimal (column_at text fault.at) ++ codes " " ++ text_code fault.number
refusal_words text (NotOne count) = codes "S04 " ++ decimal count
refusal_words text TooMany = codes "S05"
refusal_words text Memory = []

-- the line of a refused edit
abbrev pub refusal_line : Asked → EditError → List ℕ
refusal_line edit error = codes "refused " ++ refusal_words (unwrap_or (edited_text edit) []) error ++ codes "\n"

-- the line of refused edits: the number, from 0, of the first that is refused, and why
abbrev pub batch_refusal_line : ℕ → Asked → EditError → List ℕ
batch_refusal_line n edit error =
    codes "refused " ++ decimal n ++ codes " " ++ refusal_words (unwrap_or (edited_text edit) []) error ++ codes "\n"

-- a word, a count, and then a line with the label of each item with one of these numbers
abbrev pub numbers_listed : List ℕ → BaseView → List ℕ → List ℕ
numbers_listed word base numbers =
    let items = map (said_at base) numbers in
    word ++ codes " " ++ decimal (length items) ++ codes "\n" ++ flat_map (λ item. unwrap_or item.label [] ++ codes "\n") items

-- the line that reports on the assertion with this label
abbrev pub told_line : List (List ℕ) → List ℕ → Told → List ℕ
told_line names label AnAxiom = codes "axiom " ++ label ++ codes "\n"
told_line names label Proved = codes "proved " ++ label ++ codes "\n"
told_line names label (Incomplete at) = incomplete_line names label at
told_line names label (Wrong number at) = wrong_line names label number at
told_line names label _ = []

-- the answer if edits are done: the word `ran`, with the labels of the theorems whose proofs are run, which are those that were not there
-- before with the same label and the same view; the top file stays
pub record IsRunAnswer (old new : SessionView) (answer : List ℕ) : Type 0 where
  pub top : new.top ≡ old.top
  pub runs : List ℕ
  pub are_runs : AreRunsOf old.files new.files old.top runs
  pub answer_is : answer ≡ numbers_listed (codes "ran") (base_of are_runs.new) runs

-- the answer if an edit is refused: the reason, which is not out of memory; and nothing is changed
pub record IsRefused (old new : SessionView) (edit : Asked) (answer : List ℕ) : Type 0 where
  pub error : EditError
  pub refused : IsEditError edit old.files error
  pub told : error ≢ Memory
  pub unchanged : new ≡ old
  pub answer_is : answer ≡ refusal_line edit error

-- the answer if several edits are refused: the first of them that is, and why; and nothing is changed
pub record IsBatchRefused (old new : SessionView) (edits : List Asked) (answer : List ℕ) : Type 0 where
  pub n : ℕ
  pub error : EditError
  pub refused : IsRefusedAt edits old.files n error
  pub unchanged : new ≡ old
  pub answer_is : answer ≡ batch_refusal_line n refused.edit error

-- the answer to an edit, done or refused, and the session after it
abbrev pub IsEditAnswer : SessionView → Asked → List ℕ → SessionView → Type 0
IsEditAnswer old edit answer new = (IsEditOf edit old.files new.files × IsRunAnswer old new answer) ⊎ IsRefused old new edit answer

-- the answer to several edits at once, done or refused, and the session after them
abbrev pub IsBatchAnswer : SessionView → List Asked → List ℕ → SessionView → Type 0
IsBatchAnswer old edits answer new = (IsBatchOf edits old.files new.files × IsRunAnswer old new answer) ⊎ IsBatchRefused old new edits answer

-- no assertion has the label, and the answer says so
pub record IsUnknown (session : SessionView) (label answer : List ℕ) : Type 0 where
  pub none : ¬ HasAssertion session label
  pub answer_is : answer ≡ codes "refused K01\n"

-- the answer that reports on the assertion with this label
abbrev pub IsVerdictAnswer : SessionView → List ℕ → List ℕ → Type 0
IsVerdictAnswer session label answer =
    (told : Told) × IsVerdictOf session label told × (answer ≡ told_line (names_of session.files) label told)

-- the answer `found`, with the labels of the items whose numbers are those wanted
abbrev pub IsFound : SessionView → (List ℕ → Type 0) → List ℕ → Type 0
IsFound session are answer =
    (numbers : List ℕ) × are numbers × OfItems session (λ base. answer ≡ numbers_listed (codes "found") base numbers)

-- the answer to a question about an assertion, which has this label
abbrev pub IsAnswerOf : SessionView → Question → List ℕ → List ℕ → Type 0
IsAnswerOf session Verdict label answer = IsVerdictAnswer session label answer
IsAnswerOf session Axioms label answer = IsFound session (AreAxiomsOf session label) answer
IsAnswerOf session Cites label answer = IsFound session (AreCitesOf session label) answer
IsAnswerOf session Users label answer = IsFound session (AreUsersOf session label) answer

-- the answer to a command, and the session after it
abbrev pub IsAnswer : SessionView → Command → List ℕ → SessionView → Type 0
IsAnswer old (Change edit) answer new = IsEditAnswer old edit answer new
IsAnswer old (Batch edits) answer new = IsBatchAnswer old (map (λ listed. listed.edit) edits) answer new
IsAnswer old Report answer new = IsReport old answer × (new ≡ old)
IsAnswer old (Ask question label) answer new = (IsUnknown old label answer ⊎ IsAnswerOf old question label answer) × (new ≡ old)

-- the answers to commands, joined, each put to the session after the one before it; and the session after them all
abbrev pub AreAnswers : SessionView → List Command → List ℕ → SessionView → Type 0
AreAnswers old [] answers new = (answers ≡ []) × (new ≡ old)
AreAnswers old (command ∷ commands) answers new =
    (one : List ℕ) × (next : SessionView) × (rest : List ℕ)
    × IsAnswer old command one next × AreAnswers next commands rest new × (answers ≡ one ++ rest)

-- the answers of a script, the session after it, and how the script ends
pub record IsScriptAnswer (old : SessionView) (script answers : List ℕ) (new : SessionView) (end : End) : Type 0 where
  pub entries : List Entry
  pub rest : List ℕ
  pub reading : IsLongestReading script entries rest
  pub answered : AreAnswers old (commands_of entries) answers new
  pub ends : EndsSo rest end
