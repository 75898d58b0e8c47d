-- Assertions with their pairs by names.
use Rattle.std.specs.Prelude.{◌≡◌, ℕ, List}
use Rattle.mm_machine.specs.Language.Frame.{Mandatory}
use Rattle.mm_machine.specs.Language.Lasting.{IsCited}
use Rattle.mm_machine.specs.Language.NumberedSymbols.{named_symbol}
use Rattle.mm_machine.specs.declared.named.Cited.{Cited}
use Rattle.mm_machine.specs.declared.symbol.NamedSymbol.{NamedSymbol}

-- what has this expression, these hypotheses and these pairs can be cited by these lasting expressions
abbrev pub IsCitedSo : List Mandatory → ℕ → List ℕ → List (NamedSymbol × NamedSymbol) → Type 0
IsCitedSo lasting expression hypotheses pairs = (c : Cited NamedSymbol) → c.expression ≡ expression → c.hypotheses.now ≡ hypotheses → c.pairs.now ≡ pairs
    → IsCited named_symbol lasting c
