-- Numbers for names are a renaming.
use Rattle.std.proofs.{Common.{rules, ◌≡◌, ◌≢◌, ℕ, zero, suc, ◌+◌, Bool, true, false, Some, List, [], ◌∷◌, map, refl, sym, ap, ap₂, ◌∙◌, arith, slice_get, bytes_eq, All}, lemmas.Grind.{common_steps}}
use Rattle.std.proofs.lemmas.{Bool.{cases_Bool, false≢true}, List.Elements.{All-head, All-tail}, Option.{slice_get-get_or}, Slice.Eq.{bytes_eq-Decides}}
use Rattle.mm_machine.specs.{declared.symbol.NumberedSymbol.{NumberedSymbol}, Language.Names.{AreDistinct, name_at}}
use Rattle.mm_machine.specs.Language.NumberedSymbols.{symbol_of, symbols_of, pair_of, kept_pairs, IsNumbered, IsPairNumbered, by_number, all_by_number}
use Rattle.mm_machine.specs.Language.{Renaming.{IsRenaming, renamed_pair, renamed_pairs}, CodeLists.{meant_pairs}, Numbering.{exchanged, named_from, numbered_from, naming, unnaming}}

same_names : (a b : List ℕ) → a ≡ b → bytes_eq a b ≡ true
same_names a b e = (bytes_eq-Decides a b).1 e

other_names : (a b : List ℕ) → a ≢ b → bytes_eq a b ≡ false
other_names a b n = grind (arith, common_steps, cases_Bool (bytes_eq a b), bytes_eq-Decides a b) steps 200000

-- an exchange gives the one, the other, and any third
exchanged_first : (a b name : List ℕ) → name ≡ a → exchanged a b name ≡ b
exchanged_first a b name e = rw (same_names name a e) refl

exchanged_third : (a b name : List ℕ) → name ≢ a → name ≢ b → exchanged a b name ≡ name
exchanged_third a b name n m = rw (other_names name a n, other_names name b m) refl

exchanged_back : (a b name : List ℕ) → exchanged a b (exchanged a b name) ≡ name
exchanged_back a b name = grind (arith, common_steps, bytes_eq-Decides, cases_Bool, exchanged_first, exchanged_third, false≢true, same_names) steps 200000

-- both ways
numbered_named : (n : ℕ) (names : List (List ℕ)) (number : List ℕ) → numbered_from n names (named_from n names number) ≡ number
numbered_named n [] number = refl
numbered_named n (name ∷ names) number = grind (arith, common_steps, numbered_named (n + 1) names number, exchanged_back) steps 200000

named_numbered : (n : ℕ) (names : List (List ℕ)) (name : List ℕ) → named_from n names (numbered_from n names name) ≡ name
named_numbered n [] name = refl
named_numbered n (first ∷ names) name = grind (arith, common_steps, named_numbered (n + 1) names (exchanged (named_from (n + 1) names (n ∷ [])) first name), exchanged_back) steps 200000

pub naming_is_renaming : (names : List (List ℕ)) → IsRenaming (naming names) (unnaming names)
naming_is_renaming names = grind (arith, common_steps, numbered_named, named_numbered) steps 200000

-- two numbers have different names
named_apart : (n : ℕ) (names : List (List ℕ)) (a b : ℕ) → a ≢ b → named_from n names (a ∷ []) ≢ named_from n names (b ∷ [])
named_apart n names a b other e = grind (arith, common_steps, numbered_named n names (a ∷ []), numbered_named n names (b ∷ [])) steps 200000

named_at : (n : ℕ) (names : List (List ℕ)) → AreDistinct names → (k : ℕ) (name : List ℕ) → slice_get names k ≡ Some name → named_from n names ((n + k) ∷ []) ≡ name
named_at n [] distinct k name e = cc
named_at n (first ∷ names) distinct zero name e = grind (arith, common_steps, exchanged_first) steps 200000
named_at n (first ∷ names) distinct (suc k) name e =
    let rest = named_at (n + 1) names (λ i j word f g. let more = distinct (suc i) (suc j) word f g in omega arith) k name e in
    let is : named_from (n + 1) names ((n + suc k) ∷ []) ≡ name = ap (λ (w : ℕ). named_from (n + 1) names (w ∷ [])) (omega arith) ∙ rest in
    exchanged_third
    (named_from (n + 1) names (n ∷ [])) first (named_from (n + 1) names ((n + suc k) ∷ []))
    (named_apart (n + 1) names (n + suc k) n (λ same. omega arith))
    (λ same. (let both = distinct 0 (suc k) name (ap Some (sym same ∙ is)) e in omega arith))
    ∙ is

-- the symbol with a number has the name with this number
naming_names : (names : List (List ℕ)) → AreDistinct names → (n : ℕ) (name : List ℕ) (v : Bool) → slice_get names n ≡ Some name → naming names (record { name = n ∷ []; variable = v }) ≡ record { name = name; variable = v }
naming_names names distinct n name v e = grind (arith, common_steps, named_at 0 names distinct n name e) steps 200000

-- and the symbol with the name has the number again
unnaming_numbers : (names : List (List ℕ)) → AreDistinct names → (n : ℕ) (name : List ℕ) (v : Bool) → slice_get names n ≡ Some name → unnaming names (record { name = name; variable = v }) ≡ record { name = n ∷ []; variable = v }
unnaming_numbers names distinct n name v e = ap (unnaming names) (sym (naming_names names distinct n name v e)) ∙ (naming_is_renaming names).there (record { name = n ∷ []; variable = v })

-- what is kept by the numbers of names, and what it stands for
module _ (names : List (List ℕ)) (distinct : AreDistinct names) where
  symbol_numbered : (s : NumberedSymbol) → IsNumbered names s → unnaming names (symbol_of names s) ≡ by_number s
  symbol_numbered s within = unnaming_numbers names distinct s.name (name_at names s.name) s.variable (slice_get-get_or names s.name [] within)

  pub symbols_numbered : (symbols : List NumberedSymbol) → All (IsNumbered names) symbols → map (unnaming names) (symbols_of names symbols) ≡ all_by_number symbols
  symbols_numbered [] all = refl
  symbols_numbered (s ∷ symbols) all =
      search (rules, symbols_numbered symbols (All-tail (IsNumbered names) s symbols all), symbol_numbered s (All-head (IsNumbered names) s symbols all))

  pub pairs_numbered : (pairs : List (NumberedSymbol × NumberedSymbol)) → All (IsPairNumbered names) pairs → renamed_pairs (unnaming names) (kept_pairs names pairs) ≡ meant_pairs by_number pairs
  pairs_numbered [] all = refl
  pairs_numbered (pair ∷ pairs) all =
      let both = All-head (IsPairNumbered names) pair pairs all in
      let one : renamed_pair (unnaming names) (pair_of names pair) ≡ (by_number pair.0, by_number pair.1) = λ i. (symbol_numbered pair.0 both.0 i, symbol_numbered pair.1 both.1 i) in
      ap₂ ◌∷◌ one (pairs_numbered pairs (All-tail (IsPairNumbered names) pair pairs all))
