-- The parts of units, found from left to right, word by word; and what the reading of the parts of a piece keeps.
use Rattle.std.specs.Prelude.{◌≡◌, ℕ, ◌-◌, Bool, true, false, if◌then◌else◌, List, [], ◌∷◌, ◌++◌, Option, Some, None, unwrap_or}
use Rattle.mm_text.specs.declared.division.PartReading.{PartReading}
use Rattle.mm_text.specs.declared.part.Part.{Part}
use Rattle.mm_text.specs.declared.part.PartKind.{PartKind}
use Rattle.mm_text.specs.declared.word.Word.{Word}
use Rattle.mm_text.specs.declared.word.Keyword.TheVariants.{BlockStart, BlockEnd, StatementEnd, InclusionEnd}
use Rattle.mm_text.specs.declared.word.WordKind.{WordKind}
use Rattle.mm_text.specs.declared.word.WordKind.TheVariants as kinds
use Rattle.mm_text.specs.Language.Unit.{Token}
use Rattle.mm_text.specs.Language.Part.{token_end, word_part}

-- whether a part ends with a word
abbrev pub ends_part : WordKind → Bool
ends_part (kinds.Keyword BlockStart) = true
ends_part (kinds.Keyword BlockEnd) = true
ends_part (kinds.Keyword StatementEnd) = true
ends_part (kinds.Keyword InclusionEnd) = true
ends_part _ = false

-- the parts, found word by word; if a part has begun, its first byte is given
abbrev pub emit_word : Option ℕ → PartKind → WordKind → Token → (Option ℕ → PartKind → List Part) → List Part
emit_word first kind word token later =
    if ends_part word then record { kind = word_part kind word; start = unwrap_or first token.start; end = token_end token } ∷ later None (word_part kind word)
    else later (Some (unwrap_or first token.start)) (word_part kind word)

abbrev pub emit : Option ℕ → PartKind → List Token → List Part
emit first kind [] = []
emit first kind (token ∷ tokens) = emit_word first kind token.kind token (λ first kind. emit first kind tokens)

-- the parts that have ended after a word with which a part ends, or does not
abbrev pub parts_behind : Bool → List Part → Part → List Part
parts_behind true parts part = parts ++ part ∷ []
parts_behind false parts part = parts

-- where the open part begins after such a word, if there is one
abbrev pub open_behind : Bool → ℕ → Option ℕ
open_behind true start = None
open_behind false start = Some start

-- a word of the piece that begins at the byte `from` is taken
pub record TakesPartWord (old : PartReading) (from : ℕ) (word : Word) (new : PartReading) : Type 0 where
  pub kind : new.kind ≡ word_part old.kind word.kind
  pub first : new.first ≡ open_behind (ends_part word.kind) (unwrap_or old.first (word.start - from))
  pub parts : new.parts.items
      ≡ parts_behind (ends_part word.kind) old.parts.items
      (record { kind = word_part old.kind word.kind; start = unwrap_or old.first (word.start - from); end = word.end - from })
