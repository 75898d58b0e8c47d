-- How many `${` and `$}` are in a list of words.
use Rattle.std.specs.Prelude.{ℕ, ◌+◌, List, [], ◌∷◌}
use Rattle.mm_text.specs.declared.word.Keyword.TheVariants.{BlockStart, BlockEnd}
use Rattle.mm_text.specs.declared.word.WordKind.{WordKind}
use Rattle.mm_text.specs.declared.word.WordKind.TheVariants as kinds
use Rattle.mm_text.specs.Language.Unit.{Token}

abbrev pub is_start_word : WordKind → ℕ
is_start_word (kinds.Keyword BlockStart) = 1
is_start_word _ = 0

abbrev pub is_end_word : WordKind → ℕ
is_end_word (kinds.Keyword BlockEnd) = 1
is_end_word _ = 0

abbrev pub starts : List Token → ℕ
starts [] = 0
starts (token ∷ tokens) = is_start_word token.kind + starts tokens

abbrev pub ends : List Token → ℕ
ends [] = 0
ends (token ∷ tokens) = is_end_word token.kind + ends tokens
