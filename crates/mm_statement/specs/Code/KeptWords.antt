-- What the code keeps of the words up to a keyword: those that are left of a text.
use Rattle.std.specs.Prelude.{◌≡◌, ℕ, List}
use Rattle.mm_statement.specs.declared.plain_words.PlainWords.TheInside.{Inside}
use Rattle.mm_statement.specs.Code.PlainWords.{AreFewWords, plain_bytes}

-- the words up to the next keyword
abbrev pub words_left : Inside → List (List ℕ)
words_left inside = plain_bytes inside.text.now inside.cursor.words

-- the words are in the text, and are few
pub record AreLeft (inside : Inside) : Type 0 where
  pub text : inside.cursor.text ≡ inside.text.now
  pub few : AreFewWords (words_left inside)
