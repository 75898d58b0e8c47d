-- What is proved of the answers of scripts: each is the contract of a function.
use Rattle.std.specs.Prelude.{◌≡◌, ℕ, Some, List, ◌++◌}
use Rattle.mm_keep.specs.mm_store.Language.Holding.{HoldOneEach}
use Rattle.mm_keep.specs.Language.Sessions.{SessionView, HasItems}
use Rattle.mm_report.specs.Language.Answers.{AreAnswers, IsScriptAnswer}
use Rattle.mm_report.specs.Language.Scripting.{AreFirst}
use Rattle.mm_script.specs.Language.Script.{Entry, End, commands_of}

-- A script has one list of answers in a session, one session after it, and one end.
abbrev pub OneScriptAnswer : Type 0
OneScriptAnswer = (session new copy : SessionView) (script answers copies : List ℕ) (end ended : End)
    → IsScriptAnswer session script answers new end → IsScriptAnswer session script copies copy ended
    → (answers ≡ copies) × (new ≡ copy) × (end ≡ ended)

-- The answers to the first commands of a script are a beginning of all its answers. If no more bytes follow them, the last line may be
-- without its line feed.
abbrev pub AnswersBegin : Type 0
AnswersBegin = (session new final : SessionView) (bytes more answers all : List ℕ) (entries : List Entry) (rest : List ℕ) (end : End)
    → AreFirst (Some more) bytes entries rest → AreAnswers session (commands_of entries) answers new
    → IsScriptAnswer session (bytes ++ more) all final end → (later : List ℕ) × (all ≡ answers ++ later)

-- a session as it is: each piece of its files holds one unit, and the files have items from the top file on
pub record IsWholeSession (session : SessionView) : Type 0 where
  pub units : HoldOneEach session.files
  pub items : HasItems session

-- the script has answers and an end, and the session after it is whole again
pub record HasAnswers (session : SessionView) (script : List ℕ) : Type 0 where
  pub answers : List ℕ
  pub new : SessionView
  pub end : End
  pub is : IsScriptAnswer session script answers new end
  pub whole : IsWholeSession new

-- Each script has answers in each session: each edit is accepted or refused for a reason, each label is known or not, and each list,
-- each verdict and each report exists.
abbrev pub HasScriptAnswer : Type 0
HasScriptAnswer = (session : SessionView) (script : List ℕ) → IsWholeSession session → HasAnswers session script
