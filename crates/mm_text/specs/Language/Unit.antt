-- Units: what a list of words may be, if it is whole.
use Rattle.std.specs.Prelude.{◌≡◌, ℕ, ◌+◌, ◌<◌, ◌≤◌, ◌==◌, ◌||◌, ◌&&◌, Bool, true, false, nat_le, IsTrue, Some, List, [], ◌∷◌, ◌++◌, ◌⊎◌, length, take, drop}
use Rattle.std.specs.Prelude.{map, slice_get}
use Rattle.std.specs.List.{AllByRecursion, list_all, slice_range}
use Rattle.mm_text.specs.declared.word.Keyword.{Keyword}
use Rattle.mm_text.specs.declared.word.Keyword.TheVariants.{BlockStart, BlockEnd, Constants, Variables, Floating, Essential, Disjoint, Axiom, Theorem}
use Rattle.mm_text.specs.declared.word.Keyword.TheVariants.{StatementEnd, ProofStart, InclusionStart, InclusionEnd}
use Rattle.mm_text.specs.declared.word.WordKind.{WordKind}
use Rattle.mm_text.specs.declared.word.WordKind.TheVariants as kinds
use Rattle.mm_text.specs.declared.word.Word.{Word}
use Rattle.mm_text.specs.declared.fault.TextNumber.{TextNumber}
use Rattle.mm_text.specs.declared.fault.TextNumber.TheVariants.{T06, T07, T08, T09, T10, T11, T12}

-- a word with its kind and bytes, and the place at which it begins
pub record Token : Type 0 where
  pub kind : WordKind
  pub bytes : List ℕ
  pub start : ℕ

-- a word of a text, with its bytes
abbrev pub token_of : List ℕ → Word → Token
token_of text word = record { kind = word.kind; bytes = slice_range text word.start word.end; start = word.start }

-- words of a text, each with its bytes
abbrev pub tokens_of : List ℕ → List Word → List Token
tokens_of text words = map (token_of text) words

-- the bytes of each word
abbrev pub spellings : List ℕ → List Word → List (List ℕ)
spellings text words = map (λ token. token.bytes) (tokens_of text words)

-- the word is this keyword
abbrev pub IsKeyword : Keyword → Token → Type 0
IsKeyword keyword token = token.kind ≡ kinds.Keyword keyword

-- the word is a plain one: no keyword
abbrev pub IsPlain : Token → Type 0
IsPlain token = token.kind ≡ kinds.Plain

-- a byte that a label may have: a letter, a digit, `-`, `_` or `.`
unfoldable pub is_label_byte : ℕ → Bool
is_label_byte b = nat_le 48 b && nat_le b 57 || nat_le 65 b && nat_le b 90 || nat_le 97 b && nat_le b 122 || b == 45 || b == 95 || b == 46

-- a label: a plain word of label bytes alone
abbrev pub IsLabel : Token → Type 0
IsLabel token = IsPlain token × IsTrue (list_all is_label_byte token.bytes)

-- the words of a statement or an inclusion, by their places in it: `$c a b $.` (also `$v`, `$d`); `label $a a b $.` (also `$f`, `$e`);
-- `label $p a b $= proof $.`; `$[ name $]`
pub data Shape : Type 0 where
  Declaration : Token → List Token → Token → Shape
  Labelled : Token → Token → List Token → Token → Shape
  Provable : Token → Token → List Token → Token → List Token → Token → Shape
  Inclusion : Token → Token → Token → Shape

-- the words of a statement or an inclusion, one after another
abbrev pub shape_tokens : Shape → List Token
shape_tokens (Declaration keyword symbols end) = keyword ∷ (symbols ++ end ∷ [])
shape_tokens (Labelled label keyword symbols end) = label ∷ keyword ∷ (symbols ++ end ∷ [])
shape_tokens (Provable label keyword symbols proof steps end) = label ∷ keyword ∷ (symbols ++ proof ∷ (steps ++ end ∷ []))
shape_tokens (Inclusion begin name end) = begin ∷ name ∷ end ∷ []

-- each word of a statement or an inclusion is what belongs at its place; an inclusion needs `outside`: no block is open
abbrev pub IsShape : Bool → Shape → Type 0
IsShape outside (Declaration keyword symbols end) =
    (IsKeyword Constants keyword ⊎ (IsKeyword Variables keyword ⊎ IsKeyword Disjoint keyword)) × AllByRecursion IsPlain symbols × IsKeyword StatementEnd end
IsShape outside (Labelled label keyword symbols end) =
    IsLabel label × (IsKeyword Floating keyword ⊎ (IsKeyword Essential keyword ⊎ IsKeyword Axiom keyword))
    × AllByRecursion IsPlain symbols × IsKeyword StatementEnd end
IsShape outside (Provable label keyword symbols proof steps end) =
    IsLabel label × IsKeyword Theorem keyword × AllByRecursion IsPlain symbols
    × IsKeyword ProofStart proof × AllByRecursion IsPlain steps × IsKeyword StatementEnd end
IsShape outside (Inclusion begin name end) =
    IsTrue outside × IsKeyword InclusionStart begin × IsPlain name × IsKeyword InclusionEnd end

-- a sequence of units: none; or a statement or an inclusion, and the units after it; or a block with units inside, and the units after it
pub data Units : Type 0 where
  Nothing : Units
  Simple : Shape → Units → Units
  Block : Token → Units → Token → Units → Units

-- the words of a sequence of units, one after another
abbrev pub unit_tokens : Units → List Token
unit_tokens Nothing = []
unit_tokens (Simple shape later) = shape_tokens shape ++ unit_tokens later
unit_tokens (Block begin inner end later) = begin ∷ (unit_tokens inner ++ end ∷ unit_tokens later)

-- a sequence of units is right: each statement and inclusion is; each block goes from `${` to `$}`, and what it holds is right in a block;
-- `outside` says that no block is open
abbrev pub AreUnits : Bool → Units → Type 0
AreUnits outside Nothing = Unit {0}
AreUnits outside (Simple shape later) = IsShape outside shape × AreUnits outside later
AreUnits outside (Block begin inner end later) = IsKeyword BlockStart begin × AreUnits false inner × IsKeyword BlockEnd end × AreUnits outside later

-- the words are whole units: some sequence of units has these words
abbrev pub IsWhole : List Token → Type 0
IsWhole tokens = (units : Units) × AreUnits true units × (unit_tokens units ≡ tokens)

-- the words may still become whole units: some list that begins with them is whole
abbrev pub IsViable : List Token → Type 0
IsViable tokens = (more : List Token) × IsWhole (tokens ++ more)

-- after these words a unit may begin: the words, and some `${` after them, may still become whole units
abbrev pub MayBegin : List Token → Type 0
MayBegin front = (begin : Token) × IsKeyword BlockStart begin × IsViable (front ++ begin ∷ [])

-- the last of these words is a `$[`
abbrev pub EndsInInclusion : List Token → Type 0
EndsInInclusion front = (before : List Token) × (begin : Token) × (front ≡ before ++ begin ∷ []) × IsKeyword InclusionStart begin

-- why no units go on with a word after these. T12: a keyword right after `$[`. T10: a `$[` where no inclusion is allowed. T09: a `$}`
-- between units with no block open. T11: a plain word between units that cannot be a label. T06: any other word
abbrev pub IsUnitNumber : TextNumber → List Token → Token → Type 0
IsUnitNumber T12 front token = EndsInInclusion front × ¬ IsPlain token
IsUnitNumber T10 front token = ¬ EndsInInclusion front × IsKeyword InclusionStart token
IsUnitNumber T09 front token = MayBegin front × IsKeyword BlockEnd token
IsUnitNumber T11 front token = MayBegin front × IsPlain token
IsUnitNumber T06 front token = ¬ (EndsInInclusion front × ¬ IsPlain token) × ¬ IsKeyword InclusionStart token
    × ¬ (MayBegin front × (IsKeyword BlockEnd token ⊎ IsPlain token))
IsUnitNumber _ front token = ⊥

-- the word with this number, from 0, is the first with which the words can no longer become whole units; the fault number says why
pub record StopsAtWord (tokens : List Token) (number : TextNumber) (word : ℕ) : Type 0 where
  pub token : Token
  pub there : slice_get tokens word ≡ Some token
  pub goes_on : IsViable (take word tokens)
  pub stops : ¬ IsViable (take (word + 1) tokens)
  pub is_number : IsUnitNumber number (take word tokens) token

-- the words end inside a statement or an inclusion that begins with the word of this number: a unit may begin there, and nowhere after it
pub record EndsInUnit (tokens : List Token) (word : ℕ) : Type 0 where
  pub within : word < length tokens
  pub viable : IsViable tokens
  pub begins : MayBegin (take word tokens)
  pub unfinished : (n : ℕ) → word < n → n ≤ length tokens → ¬ MayBegin (take n tokens)

-- the words end inside a block whose `${` is this word: the words after it are whole units, without the `$}` of the block
pub record EndsInBlock (tokens : List Token) (word : ℕ) : Type 0 where
  pub begin : Token
  pub inner : Units
  pub there : slice_get tokens word ≡ Some begin
  pub opens : IsKeyword BlockStart begin
  pub begins : MayBegin (take word tokens)
  pub inside : AreUnits false inner
  pub behind : drop (word + 1) tokens ≡ unit_tokens inner

-- the list of words has this fault, at the word with this number
abbrev pub IsUnitFault : List Token → TextNumber → ℕ → Type 0
IsUnitFault tokens T07 word = EndsInUnit tokens word
IsUnitFault tokens T08 word = EndsInBlock tokens word
IsUnitFault tokens number word = StopsAtWord tokens number word
