-- The symbols of a sound statement, as the code keeps them by the numbers of their names.
use Rattle.std.proofs.lemmas.{Option.{slice_get-get_or, slice_get_within}, Bool.{false_from_ne_true}, List.Elements.{All-map}}
use Rattle.std.proofs.Common.{get_or, ◌∙◌, sym, ◌≡◌, ℕ, suc, ◌<◌, true, not, List, [], ◌∷◌, ◌++◌, length, map, slice_get, refl, ap, subst, arith, inl, inr, ◌⊎◌, All}
use Rattle.mm_frame.proofs.lemmas.{lists.Members.{get_join, In, has_in, in_has}, scope.{Facts.{not_constant}, SoundItems.{map_same, named}, KnownLemmas.{known_at, constant_in}}}
use Rattle.mm_frame.{proofs.lemmas.{pairs.ActivePairLemmas.{disjoint_named}, names.NumberLemmas.{name_read, number_at}}, specs.Language.Scope.{constants, active_variables}}
use Rattle.mm_frame.specs.{Language.{Sound.{IsSound, AreSound}, Framing.{symbol, expression}}, declared.tables.Tables.{Tables}, Code.Numbers.{IsNameNumber, AreNameNumbers}}
use Rattle.mm_frame.specs.Code.{KeptTables.{declared_at, is_constant_as, Knows}, KeptSymbols.{by_constants, symbol_by, variable_by}}
use Rattle.mm_statement.specs.Language.Item.{Said, is_labelled, is_kind, Disjoint, has}
use Rattle.mm_machine.specs.{Language.{Frame.{Symbol}, NumberedSymbols.{symbol_of, symbols_of, as_variable, IsNumbered}}, declared.symbol.NumberedSymbol.{NumberedSymbol}}

-- a symbol of a sound `$f`, `$e`, `$a` or `$p` is a variable if it is no declared constant
by_constants_is : (before : List Said) (item : Said) (name : List ℕ) → AreSound before → IsSound before item → is_labelled item.kind ≡ true → In name item.symbols → by_constants before name ≡ symbol before name
by_constants_is before item name h s t n = let same = is_variable (named before item name s t n) in λ i. record { name = name; variable = same i }
  where
    is_variable : (In name (constants before) ⊎ In name (active_variables before)) → not (has (constants before) name) ≡ has (active_variables before) name
    is_variable (inl c) = ap not (in_has (constants before) name c) ∙ sym (false_from_ne_true (has (active_variables before) name) (λ v. not_constant before h name c (has_in (active_variables before) name v)))
    is_variable (inr v) = ap not (false_from_ne_true (has (constants before) name) (λ c. not_constant before h name (has_in (constants before) name c) v)) ∙ sym (in_has (active_variables before) name v)

-- what is made of each number, if it is known what is made of the number of a name
each_read : (all : List (List ℕ)) (kept : ℕ → NumberedSymbol) (said : List ℕ → Symbol) → ((n : ℕ) (name : List ℕ) → IsNameNumber all n name
    → symbol_of all (kept n) ≡ said name) → (numbers : List ℕ) (names : List (List ℕ)) → AreNameNumbers all numbers names
    → symbols_of all (map kept numbers) ≡ map said names
each_read all kept said h [] [] a = refl
each_read all kept said h (n ∷ numbers) (name ∷ names) a =
    let count = a.count in
    let rest = each_read all kept said h numbers names (record { count = omega (arith, count); each = λ i m there. a.each (suc i) m there }) in
    (λ i. h n name (a.each 0 n refl) i ∷ rest i)
each_read all kept said h _ _ a = let count = a.count in absurd (omega (arith, count))

pub each_numbered : (all : List (List ℕ)) (kept : ℕ → NumberedSymbol) → ((n : ℕ) → (kept n).name ≡ n) → (numbers : List ℕ) (names : List (List ℕ)) → AreNameNumbers all numbers names → All (IsNumbered all) (map kept numbers)
each_numbered all kept h numbers names a = All-map (IsNumbered all) kept numbers (λ i d l. subst (λ (m : ℕ). m < length all) (sym (h (get_or numbers i d)))
    (slice_get_within all (get_or numbers i d) (get_or names i []) (number_at all numbers names i d a l)))

-- the symbols of a sound `$f`, `$e`, `$a` or `$p` are its expression
pub read_all : (all : List (List ℕ)) (tables : Tables) (before : List Said) (item : Said) (numbers : List ℕ) → AreSound before → Knows all before tables → AreNameNumbers all numbers item.symbols → IsSound before item → is_labelled item.kind ≡ true
    → symbols_of all (map (symbol_by tables) numbers) ≡ expression before item
read_all all tables before item numbers h k a s t =
    each_read all (symbol_by tables) (by_constants before) (λ n name there. let same = ap not (known_as n name there) in λ i. record { name = name_read all n name there i; variable = same i }) numbers item.symbols a
    ∙ map_same (by_constants before) (symbol before) item.symbols (λ name m. by_constants_is before item name h s t m) where
      known_as : (n : ℕ) (name : List ℕ) → IsNameNumber all n name → is_constant_as (declared_at tables n) ≡ has (constants before) name
      known_as n name there = ap is_constant_as (known_at all before tables n name k there) ∙ constant_in before name

-- the symbols of a sound `$d` are read as variables
pub variables_read_all : (all : List (List ℕ)) (before : List Said) (item : Said) (numbers : List ℕ) → AreNameNumbers all numbers item.symbols
    → IsSound before item → is_kind Disjoint item.kind ≡ true → symbols_of all (map variable_by numbers) ≡ expression before item
variables_read_all all before item numbers a s t =
    each_read all variable_by as_variable (λ n name there i. record { name = name_read all n name there i; variable = true }) numbers item.symbols a
    ∙ map_same as_variable (symbol before) item.symbols (λ name m. let v = in_has (active_variables before) name (disjoint_named before item name s t m) in λ i. record { name = name; variable = sym v i })

-- the elements before the last one
pub get_before : {X : Type 0} (xs : List X) (y : X) (n : ℕ) → n < length xs → slice_get (xs ++ y ∷ []) n ≡ slice_get xs n
get_before xs y n l = get_join xs (y ∷ []) n (get_or xs n y) (slice_get-get_or xs n y l) ∙ sym (slice_get-get_or xs n y l)
