-- A set of names, and what it takes.
use Rattle.std.proofs.lemmas.{Grind.{common_steps}, Bool.{false≢true, false_from_ne_true}, Slice.Eq.{bytes_eq-Decides}, List.{map_push, Elements.{Contains-append_right}}}
use Rattle.std.{proofs.Common.{◌≡◌, ℕ, Bool, true, false, ◌||◌, List, [], ◌∷◌, ◌++◌, map, refl, sym, ap, ◌∙◌, arith, Contains, Vec, if◌then◌else◌}, specs.{List.{list_any}, Str.{bytes_eq}}}
use Rattle.indexmap.specs.IndexSet.{insert_key}

abbrev pub tests : {Y : Type 0} → List ℕ → List (Vec ℕ Y) → Bool
tests name names = list_any (λ key. bytes_eq name key.items) names

abbrev names_of : {Y : Type 0} → List (Vec ℕ Y) → List (List ℕ)
names_of names = map (λ key. key.items) names

found : {Y : Type 0} (name : List ℕ) (x : Vec ℕ Y) (names : List (Vec ℕ Y)) (b : Bool) → bytes_eq name x.items ≡ b → (b || tests name names) ≡ true
    → (tests name names ≡ true → Contains (names_of names) name) → Contains (x.items ∷ names_of names) name
found name x names true e h later = (0, omega arith, sym ((bytes_eq-Decides name x.items).0 e))
found name x names false e h later = Contains-append_right (x.items ∷ []) (names_of names) name (later h)

-- a name is among those that a test finds
pub contains_from_test : {Y : Type 0} (name : List ℕ) (names : List (Vec ℕ Y)) → tests name names ≡ true → Contains (names_of names) name
contains_from_test name [] h = absurd (false≢true h)
contains_from_test name (x ∷ names) h = found name x names (bytes_eq name x.items) refl h (contains_from_test name names)

pub test_from_contains : {Y : Type 0} (name : List ℕ) (names : List (Vec ℕ Y)) → Contains (names_of names) name → tests name names ≡ true
test_from_contains name [] h = absurd (omega (arith, h.1))
test_from_contains name (x ∷ names) h = grind (arith, common_steps, test_from_contains name names, bytes_eq-Decides, false≢true) steps 200000

-- a new name goes after the others
pub inserted : {Y : Type 0} (names : List (Vec ℕ Y)) (key : Vec ℕ Y) (name : List ℕ) → key.items ≡ name → ¬ Contains (names_of names) name → names_of (insert_key (λ x y. bytes_eq x.items y.items) names key) ≡ names_of names ++ name ∷ []
inserted names key name is new =
    let fresh : tests name names ≡ false = false_from_ne_true (tests name names) (λ t. new (contains_from_test name names t)) in
    let none : tests key.items names ≡ false = ap (λ n. tests n names) is ∙ fresh in
    ap (λ b. names_of (if b then names else names ++ key ∷ [])) none ∙ map_push (λ key. key.items) names key ∙ ap (λ n. names_of names ++ n ∷ []) is
