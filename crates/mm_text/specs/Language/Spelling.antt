-- How words and the marks of comments are spelled (the Metamath book, section 4.1.1).
use Rattle.std.specs.Prelude.{◌≡◌, ℕ, ◌+◌, List, ◌⊎◌, length, take, drop, Contains, codes}
use Rattle.mm_text.specs.declared.word.Keyword.{Keyword}
use Rattle.mm_text.specs.declared.word.Keyword.TheVariants.{BlockStart, BlockEnd, Constants, Variables, Floating, Essential, Disjoint, Axiom, Theorem}
use Rattle.mm_text.specs.declared.word.Keyword.TheVariants.{StatementEnd, ProofStart, InclusionStart, InclusionEnd}
use Rattle.mm_text.specs.declared.word.WordKind.{WordKind}
use Rattle.mm_text.specs.declared.word.WordKind.TheVariants as kinds
use Rattle.mm_text.specs.declared.word.Word.{Word}
use Rattle.mm_text.specs.Language.Run.{Run}

-- how each keyword is spelled
abbrev pub spelling : Keyword → List ℕ
spelling BlockStart = codes "${"
spelling BlockEnd = codes "$}"
spelling Constants = codes "$c"
spelling Variables = codes "$v"
spelling Floating = codes "$f"
spelling Essential = codes "$e"
spelling Disjoint = codes "$d"
spelling Axiom = codes "$a"
spelling Theorem = codes "$p"
spelling StatementEnd = codes "$."
spelling ProofStart = codes "$="
spelling InclusionStart = codes "$["
spelling InclusionEnd = codes "$]"

-- how a word of this kind is spelled: a keyword by its `spelling`, a plain word without `$`
abbrev pub IsSpelled : WordKind → List ℕ → Type 0
IsSpelled (kinds.Keyword keyword) bytes = bytes ≡ spelling keyword
IsSpelled kinds.Plain bytes = ¬ Contains bytes 36

-- the run is this word: spelled as its kind says, and at the same place
pub record IsWord (run : Run) (word : Word) : Type 0 where
  pub kind : IsSpelled word.kind run.bytes
  pub start : word.start ≡ run.start
  pub end : word.end ≡ run.start + length run.bytes

-- the mark that begins a comment
abbrev pub opening : List ℕ
opening = codes "$("

-- the mark that ends a comment
abbrev pub closing : List ℕ
closing = codes "$)"

-- the bytes of `part` are among these, from number `k` on
abbrev pub HasBytesAt : List ℕ → List ℕ → ℕ → Type 0
HasBytesAt bytes part k = take (length part) (drop k bytes) ≡ part

-- `$(` or `$)` is somewhere among these bytes
abbrev pub HoldsMark : List ℕ → Type 0
HoldsMark bytes = (k : ℕ) × (HasBytesAt bytes opening k ⊎ HasBytesAt bytes closing k)
