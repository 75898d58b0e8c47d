-- The words of a statement between its keywords.
use Rattle.std.specs.Prelude.{◌≡◌, ℕ, ◌<◌, ◌≤◌, Bool, true, false, Option, Some, None, List, ◌∷◌, length, map, take, slice_range}
use Rattle.std.specs.List.{AllByRecursion, flat_map, prefix_len}
use Rattle.mm_store.specs.mm_text.declared.word.Word.{Word}
use Rattle.mm_store.specs.mm_text.Language.Reading.{HasWords}
use Rattle.mm_store.specs.mm_text.Language.Unit.{spellings}
use Rattle.mm_store.specs.mm_text.Language.WordsLeft.{WordsLeft}
use Rattle.mm_statement.specs.Language.Statement.{is_plain_kind}

-- how a word is spelled
abbrev pub word_bytes : List ℕ → Word → List ℕ
word_bytes text word = slice_range text word.start word.end

-- the words before the first keyword
abbrev pub plain_words : List Word → List Word
plain_words words = take (prefix_len (λ word. is_plain_kind word.kind) words) words

-- how the words before the first keyword are spelled
abbrev pub plain_bytes : List ℕ → List Word → List (List ℕ)
plain_bytes text words = map (word_bytes text) (plain_words words)

-- there are not too many, none is empty, and they do not have too many bytes
pub record AreFewWords (words : List (List ℕ)) : Type 0 where
  pub few : length words ≤ 4294967295
  pub some : AllByRecursion (λ word. 0 < length word) words
  pub bytes : length (flat_map (λ word. word) words) ≤ 4294967295

-- the first word is taken if it is a label
abbrev pub TakesLabel : Bool → List Word → Option Word → List Word → Type 0
TakesLabel true old (Some word) new = old ≡ word ∷ new
TakesLabel true old None new = ⊥
TakesLabel false old (Some word) new = ⊥
TakesLabel false old None new = new ≡ old

-- the word's bytes are bytes of the text
abbrev pub LiesInText : List ℕ → Word → Type 0
LiesInText text word = (word.start ≤ word.end) × (word.end ≤ length text)

-- all words of a text are left: there is one, there are not too many, none is empty, and they do not have too many bytes
pub record AreWordsOf (text : List ℕ) (left : WordsLeft) : Type 0 where
  pub same_text : left.text ≡ text
  pub has_words : HasWords text left.words
  pub one : 0 < length left.words
  pub few : length left.words ≤ 4294967295
  pub some : AllByRecursion (λ word. 0 < length word) (spellings text left.words)
  pub bytes : length (flat_map (λ word. word) (spellings text left.words)) ≤ 4294967295
