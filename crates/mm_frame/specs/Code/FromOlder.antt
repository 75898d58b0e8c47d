-- What is taken over of an older base, as long as the items so far are its first ones.
use Rattle.std.specs.Prelude.{◌≡◌, ℕ, Bool, true, List, length, take}
use Rattle.std.specs.List.{AllZip}
use Rattle.mm_store.specs.Language.FilesView.{FilesView}
use Rattle.mm_statement.specs.Language.Item.{Said}
use Rattle.mm_frame.specs.Language.Base.{BaseView, said_at}
use Rattle.mm_frame.specs.Language.Answering.{BaseAnswers, IsBaseBy}
use Rattle.mm_statement.specs.Language.Statement.{Says}

-- the items are the first ones of this base
abbrev pub AreFirst : BaseView → List Said → Type 0
AreFirst base said = take (length said) base ≡ said

-- if the flag says so, the items are the first ones of each base with these answers whose items say the same in the files
abbrev pub AreFirstIf : Bool → FilesView → BaseAnswers → List Said → Type 0
AreFirstIf same files answers said =
    same ≡ true → (base : BaseView) → AllZip (Says files) answers.items base → AreFirst base said

-- the items are the first ones of a base with these answers, and its next item says this
pub record IsNextOf (all : List (List ℕ)) (answers : BaseAnswers) (base : BaseView) (said : List Said) (item : Said) : Type 0 where
  pub by : IsBaseBy all base answers
  pub front : AreFirst base said
  pub here : said_at base (length said) ≡ item
