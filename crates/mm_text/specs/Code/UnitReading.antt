-- The reading of units, computed from left to right.
use Rattle.std.specs.Prelude.{ℕ, zero, suc, Bool, if◌then◌else◌, List, [], ◌∷◌, Result, Ok, Err}
use Rattle.std.specs.List.{list_all}
use Rattle.mm_text.specs.declared.word.Keyword.{Keyword}
use Rattle.mm_text.specs.declared.word.Keyword.TheVariants.{BlockStart, BlockEnd, Constants, Variables, Floating, Essential, Disjoint, Axiom, Theorem}
use Rattle.mm_text.specs.declared.word.Keyword.TheVariants.{StatementEnd, ProofStart, InclusionStart, InclusionEnd}
use Rattle.mm_text.specs.declared.word.WordKind.{WordKind}
use Rattle.mm_text.specs.declared.word.WordKind.TheVariants as kinds
use Rattle.mm_text.specs.declared.fault.TextNumber.{TextNumber}
pub use Rattle.mm_text.specs.declared.grammar.Phase.{Phase}
pub use Rattle.mm_text.specs.declared.grammar.Phase.TheVariants.{Begin, Labelled, Symbols, Expression, Including, Named}
use Rattle.mm_text.specs.declared.fault.TextNumber.TheVariants.{T06, T09, T10, T11, T12}
use Rattle.mm_text.specs.Language.Unit.{Token, is_label_byte}

abbrev pub UnitStep : Type 0
UnitStep = Result (Phase × ℕ) TextNumber

abbrev pub phase_state : Phase → ℕ → Phase × ℕ
phase_state phase depth = (phase, depth)

abbrev pub begin : ℕ → Keyword → UnitStep
begin depth BlockStart = Ok (Begin, suc depth)
begin zero BlockEnd = Err T09
begin (suc depth) BlockEnd = Ok (Begin, depth)
begin depth Constants = Ok (Symbols, depth)
begin depth Variables = Ok (Symbols, depth)
begin depth Disjoint = Ok (Symbols, depth)
begin zero InclusionStart = Ok (Including, 0)
begin (suc depth) InclusionStart = Err T10
begin depth _ = Err T06

abbrev pub labelled : ℕ → Keyword → UnitStep
labelled depth Floating = Ok (Symbols, depth)
labelled depth Essential = Ok (Symbols, depth)
labelled depth Axiom = Ok (Symbols, depth)
labelled depth Theorem = Ok (Expression, depth)
labelled depth InclusionStart = Err T10
labelled depth _ = Err T06

abbrev pub symbols : ℕ → Keyword → UnitStep
symbols depth StatementEnd = Ok (Begin, depth)
symbols depth InclusionStart = Err T10
symbols depth _ = Err T06

abbrev pub in_expression : ℕ → Keyword → UnitStep
in_expression depth ProofStart = Ok (Symbols, depth)
in_expression depth InclusionStart = Err T10
in_expression depth _ = Err T06

abbrev pub in_name : ℕ → Keyword → UnitStep
in_name depth InclusionEnd = Ok (Begin, depth)
in_name depth InclusionStart = Err T10
in_name depth _ = Err T06

-- what a word does; is_label says whether it could be a label
abbrev pub next : Phase → ℕ → WordKind → Bool → UnitStep
next Begin depth kinds.Plain is_label = if is_label then Ok (Labelled, depth) else Err T11
next Begin depth (kinds.Keyword keyword) is_label = begin depth keyword
next Labelled depth kinds.Plain is_label = Err T06
next Labelled depth (kinds.Keyword keyword) is_label = labelled depth keyword
next Symbols depth kinds.Plain is_label = Ok (Symbols, depth)
next Symbols depth (kinds.Keyword keyword) is_label = symbols depth keyword
next Expression depth kinds.Plain is_label = Ok (Expression, depth)
next Expression depth (kinds.Keyword keyword) is_label = in_expression depth keyword
next Including depth kinds.Plain is_label = Ok (Named, depth)
next Including depth (kinds.Keyword keyword) is_label = Err T12
next Named depth kinds.Plain is_label = Err T06
next Named depth (kinds.Keyword keyword) is_label = in_name depth keyword

abbrev pub could_label : Token → Bool
could_label token = list_all is_label_byte token.bytes

abbrev pub after : UnitStep → (Phase → ℕ → UnitStep) → UnitStep
after (Ok state) more = more state.0 state.1
after (Err number) more = Err number

abbrev pub run : Phase → ℕ → List Token → UnitStep
run phase depth [] = Ok (phase, depth)
run phase depth (token ∷ tokens) = after (next phase depth token.kind (could_label token)) (λ phase depth. run phase depth tokens)
