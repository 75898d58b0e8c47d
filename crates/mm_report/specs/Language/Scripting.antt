-- What a call that reads a script and writes its answers has done, wherever it ends.
use Rattle.std.specs.Prelude.{◌≡◌, ◌⊎◌, ℕ, Option, IfSome, List, [], ◌∷◌, ◌++◌, take}
use Rattle.std.specs.Io.KnownBytes.{Appends, Consumes, IsAtEnd}
use Rattle.mm_keep.specs.Language.Sessions.{SessionView}
use Rattle.mm_report.specs.Language.Answers.{AreAnswers, IsAnswer, IsScriptAnswer}
use Rattle.mm_script.specs.Language.Script.{Command, End, Entry, Given, commands_of, AreRead, HasEntries, IsReadSoFar}

-- there is a script, which is what was unread, if that is known; the answers of the whole script are written, and nothing else
pub record AnswersScript (old new : SessionView) (unread : Option (List ℕ)) (end : End) (before after : Option (List ℕ)) : Type 0 where
  pub script : List ℕ
  pub is_script : IfSome unread (λ bytes. script ≡ bytes)
  pub answers : List ℕ
  pub is : IsScriptAnswer old script answers new end
  pub out : Appends before after answers

-- of the bytes that were read, the answers to the commands that are complete in them are written, and nothing else
pub record AnswersRead (old new : SessionView) (unread left before after : Option (List ℕ)) : Type 0 where
  pub bytes : List ℕ
  pub consumes : Consumes unread left bytes
  pub entries : List Entry
  pub rest : List ℕ
  pub reading : IsReadSoFar bytes entries rest
  pub answers : List ℕ
  pub answered : AreAnswers old (commands_of entries) answers new
  pub out : Appends before after answers

-- of the bytes that were read, the answers to the first commands in them are written, and nothing else
pub record AnswersFirst (old new : SessionView) (unread left before after : Option (List ℕ)) : Type 0 where
  pub bytes : List ℕ
  pub consumes : Consumes unread left bytes
  pub entries : List Entry
  pub rest : List ℕ
  pub are : AreRead bytes entries rest
  pub answers : List ℕ
  pub answered : AreAnswers old (commands_of entries) answers new
  pub out : Appends before after answers

-- the bytes are these entries and then a rest; if no byte is left to be read, the last line may be without its line feed
abbrev pub AreFirst : Option (List ℕ) → List ℕ → List Entry → List ℕ → Type 0
AreFirst left bytes entries rest = AreRead bytes entries rest ⊎ (IsAtEnd left × HasEntries bytes entries rest)

-- of the bytes that were read, the first commands are done, and the session is that after the last of them; the answers to those before it
-- are written whole, and of its own a beginning, or all of it, and nothing else
pub record BeginsAnswers (old new : SessionView) (unread left before after : Option (List ℕ)) : Type 0 where
  pub bytes : List ℕ
  pub consumes : Consumes unread left bytes
  pub entries : List Entry
  pub last : Command
  pub rest : List ℕ
  pub are : AreFirst left bytes (entries ++ Given last ∷ []) rest
  pub answers : List ℕ
  pub between : SessionView
  pub answered : AreAnswers old (commands_of entries) answers between
  pub answer : List ℕ
  pub is : IsAnswer between last answer new
  pub count : ℕ
  pub out : Appends before after (answers ++ take count answer)
