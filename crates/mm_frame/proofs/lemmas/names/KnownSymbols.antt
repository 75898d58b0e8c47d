-- Symbols that are known by the numbers of their names.
use Rattle.std.{proofs.{Common.{arith, ◌≡◌, ℕ, true, ◌<◌, List, [], length, map, get_or, ◌∙◌, ap}, lemmas.{Grind.{common_steps}, Option.{slice_get-get_or, slice_get-map}}}, specs.Option.{option_map}}
use Rattle.mm_frame.{proofs.lemmas.names.NamedLemmas.{each_numbered, read_all}, specs.Code.{KnownItem.{numbers_of}, Numbers.{IsNameNumber, AreNameNumbers}, KeptSymbols.{AreSymbolsOf, symbol_by}}}
use Rattle.mm_frame.specs.{Code.KeptTables.{Knows}, Language.Sound.{IsSound, AreSound}, declared.tables.Tables.{Tables}}
use Rattle.mm_statement.specs.Language.Item.{Said, is_expression}
use Rattle.mm_machine.specs.declared.symbol.NumberedSymbol.{NumberedSymbol}

-- the number of a symbol is that of the name at its place
pub named_number : (all : List (List ℕ)) (symbols : List NumberedSymbol) (names : List (List ℕ)) (n : ℕ) (d : NumberedSymbol) → n < length symbols
    → AreNameNumbers all (numbers_of symbols) names → IsNameNumber all (get_or symbols n d).name (get_or names n [])
named_number all symbols names n d l a = a.each n (get_or symbols n d).name (slice_get-map (λ (s : NumberedSymbol). s.name) symbols n ∙ ap (option_map (λ (s : NumberedSymbol). s.name)) (slice_get-get_or symbols n d l))

-- known symbols of a sound `$e`, `$a` or `$p`, each of which is what its number makes of it, are its expression
pub known_symbols : (all : List (List ℕ)) (tables : Tables) (before : List Said) (item : Said) (known : List NumberedSymbol) → AreSound before → Knows all before tables
    → AreNameNumbers all (numbers_of known) item.symbols → IsSound before item → is_expression item.kind ≡ true → map (symbol_by tables) (numbers_of known) ≡ known
    → AreSymbolsOf all before item true known
known_symbols all tables before item known h k a s e same = grind (arith, common_steps, each_numbered, read_all) steps 200000
