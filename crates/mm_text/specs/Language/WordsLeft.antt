-- A cursor over the words of a text: the text, and the words that are left.
use Rattle.std.specs.Prelude.{◌≡◌, ℕ, List, ◌++◌}
use Rattle.std.specs.List.{AllByRecursion}
use Rattle.mm_text.specs.declared.word.Word.{Word}
use Rattle.mm_text.specs.declared.word.WordKind.TheVariants.{Plain}

-- the text, and the words that are left
pub record WordsLeft : Type 0 where
  pub text : List ℕ
  pub words : List Word

-- words that are no keywords are passed over
pub record SkipsPlainWords (old new : List Word) : Type 0 where
  pub passed : List Word
  pub joined : old ≡ passed ++ new
  pub plain : AllByRecursion (λ word. word.kind ≡ Plain) passed
