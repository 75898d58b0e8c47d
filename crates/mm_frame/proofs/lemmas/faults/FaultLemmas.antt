-- What the code that looks for a fault rests on.
use Rattle.std.proofs.Common.{is_some, ◌==◌, ◌≡◌, ℕ, zero, nat_eq, slice_get, suc, ◌+◌, ◌<◌, ◌≤◌, Bool, true, false, not, cond, ◌&&◌, ◌||◌, Option, Some, None, List, [], ◌∷◌, ◌++◌, length, take, drop}
use Rattle.std.proofs.{Common.{get_or, bytes_eq, refl, sym, ◌∙◌, ap, subst, arith}, lemmas.{Grind.{common_steps}, Bool.{false≢true}, Slice.Eq.{bytes_eq-Decides}, Option.{same_Some, slice_get-get_or}}}
use Rattle.std.{proofs.{lemmas.List.{drop_all}, Math.Seq.{take-suc}}, specs.{Prelude.{is_none}, Option.{option_or}, HashSet.{HashSet}}}
use Rattle.mm_statement.specs.Language.Item.{first_symbol, Kind, Said, has, is_expression}
use Rattle.mm_frame.specs.{Language.{Scope.{constants, active_variables, typed}, Sound.{closing_word, fault_or, fault, AreSound}}, Code.Numbers.{IsNameNumber, AreNameNumbers}}
use Rattle.mm_frame.specs.Code.{KeptScope.{ScopeHolds}, KeptTables.{declared_at, declared_in, variable_at}, LastItems.{last_where, declares_variable, types, is_active_last}}
use Rattle.mm_frame.specs.Code.{FaultInOrder.{front_fault, end_fault, first_fault, symbol_fault_of, symbol_fault, symbols_fault, expression_fault, later_fault}, SeenNumbers.{HasSeen, has_number}}
use Rattle.mm_frame.specs.declared.{scope.Scope.{Scope}, tables.Declared.{Declared, TheVariants.{Constant, Variable}}, FrameNumber.{FrameNumber, TheVariants.{F10, F11}}}
use Rattle.mm_frame.proofs.lemmas.{faults.FaultReading.{first_fault_at, fault_is}, frames.Frames.{from_typed, float_of}, lists.Members.{has_in}, scope.KnownLemmas.{constant_no_variable, known_at}}
use Rattle.mm_frame.proofs.lemmas.scope.TableLemmas.{active_variable_last, typed_last}
use Rattle.mm_machine.specs.Language.Names.{AreDistinct}

-- whether a name with this declaration may come after a typecode
abbrev pub may_follow_as : List Said → Option Declared → Bool
may_follow_as before None = false
may_follow_as before (Some Constant) = true
may_follow_as before (Some (Variable declared float)) = is_active_last before float

-- what is wrong after a typecode with a name that is a constant, an active variable, or typed
abbrev later_as : Bool → Bool → Bool → Option FrameNumber
later_as constant active typed = cond (not (constant || active)) (Some F10) (cond (active && not typed) (Some F11) None)

pub follows_later : (before : List Said) → AreSound before → (name : List ℕ) → may_follow_as before (declared_in before name) ≡ is_none (later_fault before name)
follows_later before h name =
    by_test (has (constants before) name) (last_where (declares_variable name) before) (last_where (types name) before) (has (active_variables before) name) (has (typed before) name)
    (active_variable_last before h name) (typed_last before h name) (constant_no_variable before h name)
    ((λ t. let f = from_typed before name (has_in (typed before) name t) in let float = float_of before f.0 h f.1 f.2 in
    subst (λ w. has (active_variables before) w ≡ true) (sym (ap (λ symbols. get_or symbols 1 []) float.both) ∙ f.3) float.variable)) where
      by_test : (c : Bool) (v t : Option ℕ) (active typed : Bool) → active ≡ is_active_last before v → typed ≡ is_active_last before t → (c ≡ true → v ≡ None) → (typed ≡ true → active ≡ true)
          → may_follow_as before (cond c (Some Constant) (variable_at v t)) ≡ is_none (later_as c active typed)
      by_test true v t active typed a b n e = let inactive : active ≡ false = a ∙ ap (is_active_last before) (n refl) in rw inactive refl
      by_test false None t active typed a b n e = rw a refl
      by_test false (Some d) t active typed a b n e = grind (arith, common_steps, false≢true) steps 200000

-- the same by what the tables of a scope say of the name
pub follows_told : (scope : Scope) (n : ℕ) (found given : Option Declared) (all : List (List ℕ)) (before : List Said) (name : List ℕ)
    → AreSound before → ScopeHolds all before scope → IsNameNumber all n name → found ≡ declared_at scope.tables n → found ≡ given
    → may_follow_as before given ≡ is_none (later_fault before name)
follows_told scope n found given all before name h k t is e = ap (may_follow_as before) (sym e ∙ is ∙ known_at all before scope.tables n name k.knows t) ∙ follows_later before h name

-- two tests are the same if each implies the other
pub same_test : (b c : Bool) → (b ≡ true → c ≡ true) → (c ≡ true → b ≡ true) → b ≡ c
same_test true false f g = absurd (false≢true (f refl))
same_test false true f g = absurd (false≢true (g refl))
same_test _ _ f g = refl

-- two numbers are the same exactly when their names are
pub same_number : (all : List (List ℕ)) (m n : ℕ) (x y : List ℕ) → AreDistinct all → IsNameNumber all m x → IsNameNumber all n y → nat_eq m n ≡ bytes_eq x y
same_number all m n x y distinct a b = grind (arith, common_steps, bytes_eq-Decides x y, same_test, same_Some) steps 200000

among_names : (all : List (List ℕ)) (n : ℕ) (numbers : List ℕ) (names : List (List ℕ)) (number : ℕ) (name : List ℕ) → AreDistinct all → IsNameNumber all number name
    → ((i m : ℕ) → slice_get numbers i ≡ Some m → IsNameNumber all m (get_or names i [])) → length numbers ≡ length names
    → has_number (take n numbers) number ≡ has (take n names) name
among_names all zero numbers names number name distinct is each count = refl
among_names all (suc n) [] [] number name distinct is each count = refl
among_names all (suc n) (m ∷ numbers) (x ∷ names) number name distinct is each count =
    let rest = among_names all n numbers names number name distinct is (λ i k p. each (suc i) k p) (omega (arith, count)) in
    λ i. same_number all number m name x distinct is (each 0 m refl) i || rest i
among_names all _ _ _ number name distinct is each count = absurd (omega (arith, count))

-- a symbol occurs earlier exactly when its number does
pub repeated_by_number : (all : List (List ℕ)) (numbers : List ℕ) (names : List (List ℕ)) (n : ℕ) → AreDistinct all → AreNameNumbers all numbers names
    → IsNameNumber all (get_or numbers n 0) (get_or names n [])
    → has_number (take n numbers) (get_or numbers n 0) ≡ has (take n names) (get_or names n [])
repeated_by_number all numbers names n distinct are is = among_names all n numbers names (get_or numbers n 0) (get_or names n []) distinct is are.each are.count

-- one more number of a statement is seen
pub sees_next : {S : Type 0} {kept : Bool} (numbers : List ℕ) (number n more : ℕ) (seen : HashSet ℕ S) → more ≡ suc n → n < length numbers → number ≡ get_or numbers n 0
    → (kept ≡ true → HasSeen (take n numbers ++ number ∷ []) seen) → kept ≡ true → HasSeen (take more numbers) seen
sees_next numbers number n more seen m l e h d = subst (λ w. HasSeen w seen) (ap (λ x. take n numbers ++ x ∷ []) e ∙ sym (take-suc numbers n 0 l) ∙ ap (λ w. take w numbers) (sym m)) (h d)

-- this holds after all sound items of a scope, if the symbols have these numbers
abbrev pub Judged : List (List ℕ) → Scope → Said → List ℕ → (List Said → Type 0) → Type 0
Judged all scope item numbers holds = (before : List Said) → AreSound before → ScopeHolds all before scope → AreNameNumbers all numbers item.symbols → holds before

-- the symbols up to a number have no fault
pub record Passes (all : List (List ℕ)) (scope : Scope) (item : Said) (numbers : List ℕ) (n : ℕ) : Type 0 where
  pub rest : Judged all scope item numbers (λ before. symbols_fault before item ≡ first_fault (symbol_fault before item) (first_symbol item + n) n (drop n item.symbols))

-- the first of the symbols that are left
next_fault : {all : List (List ℕ)} {scope : Scope} (item : Said) (numbers : List ℕ) (n : ℕ) → n < length item.symbols → Passes all scope item numbers n → Judged all scope item numbers (λ before.
    symbols_fault before item ≡ fault_or (first_symbol item + n) (symbol_fault before item n (get_or item.symbols n [])) (first_fault (symbol_fault before item) (suc (first_symbol item + n)) (suc n) (drop (suc n) item.symbols)))
next_fault item numbers n l p before h k a = p.rest before h k a ∙ first_fault_at (symbol_fault before item) (first_symbol item + n) n n (get_or item.symbols n []) item.symbols (slice_get-get_or item.symbols n [] l)

-- a symbol with a fault
pub fault_there : {all : List (List ℕ)} {scope : Scope} (item : Said) (numbers : List ℕ) (n word : ℕ) (number : FrameNumber) → n < length item.symbols → word ≡ first_symbol item + n → Passes all scope item numbers n
    → Judged all scope item numbers (λ before. Some number ≡ symbol_fault before item n (get_or item.symbols n []))
    → Judged all scope item numbers (λ before. ◌≡◌ {A = Option (ℕ × FrameNumber)} (Some (word, number)) (symbols_fault before item))
fault_there item numbers n word number l w p f before h k a = grind (arith, common_steps, next_fault item numbers n l p before h k a) steps 200000

-- no symbol is left
pub none_left : {all : List (List ℕ)} {scope : Scope} (item : Said) (numbers : List ℕ) (n : ℕ) → length item.symbols ≤ n → Passes all scope item numbers n → Judged all scope item numbers (λ before. None ≡ symbols_fault before item)
none_left item numbers n l p before h k a = sym (p.rest before h k a ∙ ap (first_fault (symbol_fault before item) (first_symbol item + n) n) (drop_all n item.symbols l))

-- a symbol with no fault
pub passes_more : {all : List (List ℕ)} {scope : Scope} (item : Said) (numbers : List ℕ) (n more : ℕ) → more ≡ suc n → n < length item.symbols → Passes all scope item numbers n
    → Judged all scope item numbers (λ before. None ≡ symbol_fault before item n (get_or item.symbols n [])) → Passes all scope item numbers more
passes_more item numbers n more m l p none = record {
  rest = λ before h k a.
      let word : suc (first_symbol item + n) ≡ first_symbol item + more = omega (arith, m) in
      next_fault item numbers n l p before h k a
      ∙ (λ i. fault_or (first_symbol item + n) (sym (none before h k a) i) (first_fault (symbol_fault before item) (word i) (sym m i) (drop (sym m i) item.symbols)));
}

-- what is wrong with a symbol of a `$e`, `$a` or `$p`
pub expression_is : (kind : Kind) → is_expression kind ≡ true → (before : List Said) (item : Said) (n : ℕ) (name : List ℕ) → expression_fault before n name ≡ symbol_fault_of kind before item n name
expression_is kind e before item n name = grind (arith, common_steps) steps 200000

pub none_there : {X : Type 0} (found : Option X) → is_some found ≡ false → None ≡ found
none_there found e = grind (arith, common_steps) steps 200000

-- a `$e`, `$a` or `$p` with a symbol has enough of them
pub enough_symbols : (item : Said) → is_expression item.kind ≡ true → (length item.symbols == 0) ≡ false → None ≡ fault_or (closing_word item) (end_fault item) None
enough_symbols item e l = grind (arith, common_steps, false≢true) steps 200000

-- the fault of a statement, if it is neither at the first words nor among the symbols
pub at_end : (before : List Said) (item : Said) (found : Option (ℕ × FrameNumber)) → None ≡ front_fault before item → None ≡ symbols_fault before item → found ≡ fault_or (closing_word item) (end_fault item) None → found ≡ fault before item
at_end before item found f s e = e ∙ (λ i. fault_or 0 (f i) (option_or (s i) (fault_or (closing_word item) (end_fault item) None))) ∙ sym (fault_is before item)
