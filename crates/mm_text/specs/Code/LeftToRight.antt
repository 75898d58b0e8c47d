-- The reading of a text, computed from left to right. The public contracts do not speak of it: it is between the
-- code and the definitions of `Reading`, with which it is proved to agree.
use Rattle.std.specs.Prelude.{◌≡◌, ◌++◌, Vec, ℕ, ◌+◌, ◌==◌, Bool, if◌then◌else◌, false, not, ◌&&◌}
use Rattle.std.specs.Prelude.{◌||◌, List, [], ◌∷◌, length, Option, Some, None, Result, Ok, Err, option_map}
use Rattle.std.specs.Global.{Global}
use Rattle.std.specs.List.{list_any}
use Rattle.std.specs.Str.{bytes_eq}
use Rattle.mm_text.specs.declared.word.Keyword.{Keyword}
use Rattle.mm_text.specs.declared.word.Keyword.TheVariants.{BlockStart, BlockEnd, Constants, Variables, Floating, Essential, Disjoint, Axiom, Theorem}
use Rattle.mm_text.specs.declared.word.Keyword.TheVariants.{StatementEnd, ProofStart, InclusionStart, InclusionEnd}
use Rattle.mm_text.specs.declared.word.WordKind.{WordKind}
use Rattle.mm_text.specs.declared.word.WordKind.TheVariants as kinds
use Rattle.mm_text.specs.declared.word.Word.{Word}
use Rattle.mm_text.specs.declared.fault.TextFault.{TextFault}
use Rattle.mm_text.specs.declared.fault.TextError.{TextError}
use Rattle.mm_text.specs.declared.fault.TextError.TheVariants as errors
use Rattle.mm_text.specs.declared.fault.TextNumber.{TextNumber}
use Rattle.mm_text.specs.declared.fault.TextNumber.TheVariants.{T01, T02, T03, T04, T05}
use Rattle.mm_text.specs.Language.Run.{Run, runs, is_solid}
use Rattle.mm_text.specs.Language.Reading.{first_bad}
use Rattle.mm_text.specs.Language.Spelling.{opening, closing}

-- whether a byte is neither white space nor a `$`
abbrev pub is_dollarless : ℕ → Bool
is_dollarless b = is_solid b && not (b == 36)

-- whether a `$` is in these bytes
abbrev pub has_dollar : List ℕ → Bool
has_dollar bytes = list_any (λ c. c == 36) bytes

-- the keyword with this byte after its `$`
abbrev pub keyword_at : ℕ → Option Keyword
keyword_at b =
    if b == 123 then Some BlockStart
    else if b == 125 then Some BlockEnd
    else if b == 99 then Some Constants
    else if b == 118 then Some Variables
    else if b == 102 then Some Floating
    else if b == 101 then Some Essential
    else if b == 100 then Some Disjoint
    else if b == 97 then Some Axiom
    else if b == 112 then Some Theorem
    else if b == 46 then Some StatementEnd
    else if b == 61 then Some ProofStart
    else if b == 91 then Some InclusionStart
    else if b == 93 then Some InclusionEnd
    else None

abbrev pub plain_unless : Bool → Option WordKind
plain_unless b = if b then None else Some kinds.Plain

-- the kind of a run that is one word
abbrev pub word_kind : List ℕ → Option WordKind
word_kind (a ∷ b ∷ []) = if a == 36 then option_map kinds.Keyword (keyword_at b) else plain_unless (list_any (λ c. c == 36) (a ∷ b ∷ []))
word_kind bytes = plain_unless (list_any (λ c. c == 36) bytes)

-- whether these bytes are `$(` or `$)`
abbrev pub is_mark : ℕ → ℕ → Bool
is_mark a b = a == 36 && (b == 40 || b == 41)

-- whether a mark is in these bytes
abbrev pub holds_mark : List ℕ → Bool
holds_mark [] = false
holds_mark (a ∷ []) = false
holds_mark (a ∷ b ∷ bytes) = is_mark a b || holds_mark (b ∷ bytes)

abbrev pub word_at : Run → WordKind → Word
word_at run kind = record { kind = kind; start = run.start; end = run.start + length run.bytes }

abbrev pub words_fault_at : TextNumber → ℕ → TextFault
words_fault_at number at = record { number = number; at = at }

abbrev pub Read : Type 0
Read = Result (List Word) TextFault

-- what is read after a word
abbrev pub cons_word : Word → Read → Read
cons_word word (Ok words) = Ok (word ∷ words)
cons_word word (Err fault) = Err fault

-- what is read from a run that is one word
abbrev pub word_alone : Run → Option WordKind → Read → Read
word_alone run (Some kind) rest = cons_word (word_at run kind) rest
word_alone run None rest = Err (words_fault_at T05 run.start)

-- what is read from these runs; if the beginning of a comment is given, they come after it
abbrev pub read_runs : Option ℕ → List Run → Read
read_runs None [] = Ok []
read_runs (Some start) [] = Err (words_fault_at T02 start)
read_runs None (run ∷ runs) =
    if bytes_eq run.bytes opening then read_runs (Some run.start) runs
    else if bytes_eq run.bytes closing then Err (words_fault_at T04 run.start)
    else word_alone run (word_kind run.bytes) (read_runs None runs)
read_runs (Some start) (run ∷ runs) =
    if bytes_eq run.bytes closing then read_runs None runs
    else if holds_mark run.bytes then Err (words_fault_at T03 run.start)
    else read_runs (Some start) runs

-- what is read from a text
abbrev pub checked : Option ℕ → Read → Read
checked None read_runs = read_runs
checked (Some at) read_runs = Err (words_fault_at T01 at)

abbrev pub read_text : List ℕ → Read
read_text text = checked (first_bad text) (read_runs None (runs text))

-- words that were read before
abbrev pub with_words : List Word → Read → Read
with_words words (Ok more) = Ok (words ++ more)
with_words words (Err fault) = Err fault

-- What the code gives is what is read, unless memory ran out.
abbrev pub Fails : TextError → Read → Type 0
Fails errors.Memory read_runs = Unit {0}
Fails (errors.Fault fault) read_runs = read_runs ≡ Err fault

abbrev pub GivesWords : Result (Vec Word Global) TextError → Read → Type 0
GivesWords (Ok v) read_runs = read_runs ≡ Ok v.items
GivesWords (Err e) read_runs = Fails e read_runs
