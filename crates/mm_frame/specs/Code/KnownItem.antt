-- What an older base knows of an item of the files.
use Rattle.std.specs.Prelude.{◌≡◌, ℕ, true, Some, List, map, slice_get, All}
use Rattle.std.specs.Option.{option_map}
use Rattle.mm_store.specs.declared.item.Item as store
use Rattle.mm_store.specs.Language.FilesView.{FilesView}
use Rattle.mm_frame.specs.declared.older.KnownStatement.{KnownStatement}
use Rattle.mm_machine.specs.declared.symbol.NumberedSymbol.{NumberedSymbol}
use Rattle.mm_statement.specs.Language.Item.{Said, is_read}
use Rattle.mm_frame.specs.Language.Base.{BaseView, before, said_at, is_sound_at}
use Rattle.mm_frame.specs.Language.Framing.{expression}
use Rattle.mm_machine.specs.Language.NumberedSymbols.{symbols_of, IsNumbered}
use Rattle.mm_statement.specs.Language.Statement.{AreOneRange, Says}
use Rattle.mm_frame.specs.Code.Numbers.{AreNameNumbers}

-- the numbers of the names of symbols
abbrev pub numbers_of : List NumberedSymbol → List ℕ
numbers_of symbols = map (λ kept. kept.name) symbols

-- an item of a list is the same bytes of one piece, of the same kind
pub record IsSameItem (found : List store.Item) (i : ℕ) (item : store.Item) : Type 0 where
  pub was : store.Item
  pub there : slice_get found i ≡ Some was
  pub same : AreOneRange was item

-- what is known of an item is its label and the numbers of its symbols
pub record IsKnownItem (names : List (List ℕ)) (files : FilesView) (item : store.Item) (known : KnownStatement) : Type 0 where
  pub label : (said : Said) → Says files item said → option_map (λ label. label.now) known.label ≡ said.label
  pub symbols : (said : Said) → Says files item said → AreNameNumbers names (numbers_of known.symbols.now) said.symbols

-- the item with this number in a base is the same bytes and sound, and what is known of it are the symbols that are kept there
pub record IsSoundOlder (names : List (List ℕ)) (items : List store.Item) (base : BaseView) (i : ℕ) (item : store.Item) (known : KnownStatement) : Type 0 where
  pub same_item : IsSameItem items i item
  pub sound : is_sound_at base i ≡ true
  pub read : is_read (said_at base i).kind ≡ true
  pub symbols : symbols_of names known.symbols.now ≡ expression (before base i) (said_at base i)
  pub numbered : All (IsNumbered names) known.symbols.now
