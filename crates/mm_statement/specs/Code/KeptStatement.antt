-- What the code keeps of a statement: its words, and its label.
use Rattle.std.specs.Prelude.{◌≡◌}
use Rattle.std.specs.Option.{option_map}
use Rattle.mm_store.specs.mm_text.Language.Unit.{tokens_of}
use Rattle.mm_statement.specs.declared.statement.Statement.TheInside.{Inside}
use Rattle.mm_statement.specs.Language.Item.{Said}
use Rattle.mm_statement.specs.Code.PlainWords.{AreWordsOf}
use Rattle.mm_statement.specs.Language.Statement.{kind_of, item_of}

abbrev pub item_inside : Inside → Said
item_inside inside = item_of (kind_of inside.kind) (tokens_of inside.text.now inside.words.words)

-- the words are all of the text, and the label is that of the statement
pub record IsSpoken (inside : Inside) : Type 0 where
  pub words : AreWordsOf inside.text.now inside.words
  pub label : option_map (λ label. label.now) inside.label ≡ (item_inside inside).label
