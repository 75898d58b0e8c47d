-- What an item says is read from the text under its key, and items of one range of one piece say the same.
use Rattle.std.proofs.Common.{◌≡◌, ℕ, ◌<◌, ◌≤◌, List, length, slice_range, sym, ap, ◌∙◌, subst}
use Rattle.mm_store.specs.{mm_text.{declared.word.Word.{Word}, Language.{Reading.{HasWords}, Unit.{tokens_of}}}, Language.{FilesView.{FilesView}, FileFacts.{CanBeRead, IsLive}}}
use Rattle.mm_store.specs.Language.Pieces.{text_in, text_under}
use Rattle.mm_statement.specs.Language.{Item.{Said}, Statement.{AreOneRange, Says, kind_of, item_of}}
use Rattle.mm_store.specs.declared.item.Item as store

-- what is read under the key of an item
abbrev pub IsTextOf : FilesView → store.Item → List ℕ → Type 0
IsTextOf files item piece = (text : List ℕ) → IsLive files item.key text → piece ≡ text

-- the bytes of an item
abbrev bytes_in : List ℕ → store.Item → List ℕ
bytes_in text item = slice_range text item.start item.end

-- a text has one list of words
abbrev pub OneReading : Type 0
OneReading = (text : List ℕ) (a b : List Word) → HasWords text a → HasWords text b → a ≡ b

-- the words, if they are the only ones
abbrev pub OnlyWords : List ℕ → List Word → Type 0
OnlyWords text words = (others : List Word) → HasWords text others → words ≡ others

module _ (files : FilesView) (item : store.Item) (piece : List ℕ) (r : CanBeRead files item) (is : IsTextOf files item piece) where
  pub same_bytes : bytes_in piece item ≡ bytes_in r.text item
  same_bytes = ap (λ text. bytes_in text item) (is r.text r.live)

  -- the bytes of an item have the words that it can be read with
  pub has_words : HasWords (bytes_in piece item) r.words
  has_words = subst (λ bytes. HasWords bytes r.words) (sym same_bytes) r.has_words

  pub same_item : (words : List Word) → words ≡ r.words → item_of (kind_of item.kind) (tokens_of (bytes_in piece item) words) ≡ item_of (kind_of item.kind) (tokens_of (bytes_in r.text item) r.words)
  same_item words same = λ i. item_of (kind_of item.kind) (tokens_of (same_bytes i) (same i))

  -- the item ends within its piece
  pub ends_within : item.end ≤ length piece
  ends_within = subst (λ text. item.end ≤ length text) (sym (is r.text r.live)) r.within

  -- there is a word
  pub has_one : (words : List Word) → OnlyWords (bytes_in piece item) words → 0 < length words
  has_one words only = subst (λ ws. 0 < length ws) (sym (only r.words has_words)) r.some_word

-- the item that is read under the key is what it says
pub said_is : (files : FilesView) (item : store.Item) (piece : List ℕ) → IsTextOf files item piece → (words : List Word)
    → OnlyWords (bytes_in piece item) words → (said : Said) → Says files item said → item_of (kind_of item.kind) (tokens_of (bytes_in piece item) words) ≡
    said
said_is files item piece is words only said says =
    let r = says.read in
    same_item files item piece r is words (only r.words (has_words files item piece r is)) ∙ sym says.is

-- the text under the key of an item is the one that the item is read in
pub read_under : (files : FilesView) (item : store.Item) → (r : CanBeRead files item) → r.text ≡ text_under files.pieces item.key.at
read_under files item r = r.live.is_text ∙ sym (ap text_in r.live.held)

module _ (files : FilesView) (x y : store.Item) (one : AreOneRange x y) where
  same_text : (r : CanBeRead files x) (q : CanBeRead files y) → r.text ≡ q.text
  same_text r q = read_under files x r ∙ (λ i. text_under files.pieces (one.key i).at) ∙ sym (read_under files y q)

  same_range : (r : CanBeRead files x) (q : CanBeRead files y) → bytes_in r.text x ≡ bytes_in q.text y
  same_range r q = λ i. slice_range (same_text r q i) (one.start i) (one.end i)

  pub same_said : OneReading → (said told : Said) → Says files x said → Says files y told → said ≡ told
  same_said law said told f g =
      let words = law (bytes_in g.read.text y) f.read.words g.read.words (subst (λ bytes. HasWords bytes f.read.words) (same_range f.read g.read) f.read.has_words) g.read.has_words in
      f.is ∙ (λ i. item_of (kind_of (one.kind i)) (tokens_of (same_range f.read g.read i) (words i))) ∙ sym g.is
