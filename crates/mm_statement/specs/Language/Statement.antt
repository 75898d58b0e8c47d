-- What the items of the files say: the label, the symbols and the proof of each, from its words (Metamath book, section 4.1.3).
use Rattle.std.specs.Prelude.{◌≡◌, ℕ, ◌+◌, Bool, true, false, if◌then◌else◌, Option, None, List, length, map, take, drop, slice_get, slice_range}
use Rattle.std.specs.Option.{option_map}
use Rattle.std.specs.List.{prefix_len}
use Rattle.mm_store.specs.mm_text.declared.word.WordKind.{WordKind}
use Rattle.mm_store.specs.mm_text.declared.word.WordKind.TheVariants as words
use Rattle.mm_store.specs.mm_text.Language.Unit.{Token, tokens_of}
use Rattle.mm_store.specs.declared.item.Item as store
use Rattle.mm_store.specs.declared.item.ItemKind.{ItemKind}
use Rattle.mm_store.specs.declared.item.ItemKind.TheVariants as items
use Rattle.mm_store.specs.Language.FilesView.{FilesView}
use Rattle.mm_store.specs.Language.FileFacts.{CanBeRead}
use Rattle.mm_statement.specs.Language.Item.{Kind, Constants, Variables, Disjoint, Floating, Essential, Axiom, Theorem, BlockStart, BlockEnd, Missing, Said}
use Rattle.mm_statement.specs.Language.Item.{is_labelled}

-- the kind of an item of the files, as the definitions name it
abbrev pub kind_of : ItemKind → Kind
kind_of items.Constants = Constants
kind_of items.Variables = Variables
kind_of items.Disjoint = Disjoint
kind_of items.Floating = Floating
kind_of items.Essential = Essential
kind_of items.Axiom = Axiom
kind_of items.Theorem = Theorem
kind_of items.BlockStart = BlockStart
kind_of items.BlockEnd = BlockEnd
kind_of items.Missing = Missing

-- a word of this kind is no keyword
abbrev pub is_plain_kind : WordKind → Bool
is_plain_kind words.Plain = true
is_plain_kind (words.Keyword keyword) = false

-- the word is no keyword
abbrev pub is_plain : Token → Bool
is_plain token = is_plain_kind token.kind

-- the words from a place on, up to the next keyword
abbrev pub plain_from : ℕ → List Token → List Token
plain_from from tokens = take (prefix_len is_plain (drop from tokens)) (drop from tokens)

-- the bytes of each word, in order
abbrev pub token_names : List Token → List (List ℕ)
token_names tokens = map (λ token. token.bytes) tokens

-- the number of the word that is the first symbol: it comes after the label, if there is one, and the keyword
abbrev pub symbols_from : Kind → ℕ
symbols_from kind = if is_labelled kind then 2 else 1

-- the symbols, up to the keyword that closes them
abbrev pub symbols_in : Kind → List Token → List Token
symbols_in kind tokens = plain_from (symbols_from kind) tokens

-- the proof, after the `$=` that closes the symbols of a theorem; after the `$.` that closes those of any other statement there is nothing
abbrev pub proof_in : Kind → List Token → List Token
proof_in kind tokens = plain_from (symbols_from kind + length (symbols_in kind tokens) + 1) tokens

-- the label, which is the first word, if the kind has one
abbrev pub label_in : Kind → List Token → Option (List ℕ)
label_in kind tokens = if is_labelled kind then option_map (λ token. token.bytes) (slice_get tokens 0) else None

-- the item of this kind that these words say
abbrev pub item_of : Kind → List Token → Said
item_of kind tokens = record {
  kind = kind;
  label = label_in kind tokens;
  symbols = token_names (symbols_in kind tokens);
  proof = token_names (proof_in kind tokens);
}

-- this is what an item of the files says: what the words of its bytes say, by its kind
pub record Says (files : FilesView) (item : store.Item) (said : Said) : Type 0 where
  pub read : CanBeRead files item
  pub is : said ≡ item_of (kind_of item.kind) (tokens_of (slice_range read.text item.start item.end) read.words)

-- two items are the same bytes of one piece, read as one kind
pub record AreOneRange (x y : store.Item) : Type 0 where
  pub kind : x.kind ≡ y.kind
  pub key : x.key ≡ y.key
  pub start : x.start ≡ y.start
  pub end : x.end ≡ y.end

-- Items that are the same bytes of one piece, read as one kind, say the same.
abbrev pub OneRangeSaysOne : Type 0
OneRangeSaysOne = (files : FilesView) (x y : store.Item) → AreOneRange x y → (said told : Said) → Says files x said → Says files y told → said ≡ told

-- these bytes occur one after another in those of the item
pub record HasBytes (files : FilesView) (item : store.Item) (bytes : List ℕ) : Type 0 where
  pub read : CanBeRead files item
  pub start : ℕ
  pub end : ℕ
  pub stand : slice_range (slice_range read.text item.start item.end) start end ≡ bytes
