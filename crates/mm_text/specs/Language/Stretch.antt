-- Words of a text from one of them to another, and the same words in the bytes between.
use Rattle.std.specs.Prelude.{◌≡◌, ℕ, ◌+◌, List, [], ◌∷◌, ◌++◌}
use Rattle.mm_text.specs.Language.Unit.{Token}

-- a word of a part of a text as a word of the text, if the part begins at this byte
abbrev pub moved : ℕ → Token → Token
moved from token = record { kind = token.kind; bytes = token.bytes; start = from + token.start }

-- these words stand one after another among all words of a text, from the first of them to the last
pub record IsStretch (all words : List Token) (first last : Token) : Type 0 where
  pub before : List Token
  pub behind : List Token
  pub joined : all ≡ before ++ (words ++ behind)
  pub more : List Token
  pub begins : words ≡ first ∷ more
  pub front : List Token
  pub closes : words ≡ front ++ last ∷ []
