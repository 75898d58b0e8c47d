-- Names by their numbers, and lists of names that grow.
use Rattle.std.proofs.Common.{OnErr, Result, IfOk, ◌≡◌, ℕ, zero, suc, ◌+◌, ◌<◌, Option, Bool, true, false, not, ◌||◌, cond, Some, None, List, [], ◌∷◌, ◌++◌, length, map, get_or, refl, sym, ap, ◌∙◌}
use Rattle.std.proofs.{Common.{arith, slice_get, position, Vec}, lemmas.{Grind.{common_steps}, Bool.{false≢true, ltb-true, ltb-false}, Slice.Eq.{bytes_eq-Decides}, List.{map_push, length-map}}}
use Rattle.std.{proofs.lemmas.{Map.Keys.{apart_from_distinct}, Option.{same_Some, slice_get_within, slice_get-get_or, get_or_from_slice_get}}, specs.List.{IsDistinct, list_any, position_or_len}}
use Rattle.std.specs.Str.{bytes_eq}
use Rattle.mm_frame.{proofs.lemmas.lists.Members.{get_join}, specs.Code.{Numbers.{number_in, IsNameNumber, AreNameNumbers}, KeptTables.{declared_at, declared_for, table_name}}}
use Rattle.mm_frame.specs.declared.tables.Tables.{Tables}
use Rattle.indexmap.specs.IndexSet.{insert_key}
use Rattle.mm_machine.specs.Language.Names.{Begins, AreDistinct, name_at}

-- what begins with a list begins with all that the list begins with
pub begins_on : (one two three : List (List ℕ)) → Begins one two → Begins two three → Begins one three
begins_on one two three a b n name p = b n name (a n name p)

-- the element that a list of values has at a place
pub there_from_map : {X Y : Type 0} (f : X → Y) (xs : List X) (n : ℕ) (y : Y) → slice_get (map f xs) n ≡ Some y → (x : X) × (slice_get xs n ≡ Some x) × (y ≡ f x)
there_from_map f [] n y h = cc
there_from_map f (x ∷ xs) zero y h = (x, refl, sym (same_Some (f x) y h))
there_from_map f (x ∷ xs) (suc n) y h = there_from_map f xs n y h

module _ {Y : Type 0} where
  apart : (keys : List (Vec ℕ Y)) (i j : ℕ) (name : List ℕ) → IsDistinct (λ x y. bytes_eq x.items y.items) keys → i < j → slice_get (map (λ key. key.items) keys) i ≡ Some name → slice_get (map (λ key. key.items) keys) j ≡ Some name → ⊥
  apart keys i j name distinct less p q =
      let x = there_from_map (λ key. key.items) keys i name p in
      let y = there_from_map (λ key. key.items) keys j name q in
      let a : get_or keys i x.0 ≡ x.0 = get_or_from_slice_get keys i x.0 x.0 x.1 in
      let b : get_or keys j x.0 ≡ y.0 = get_or_from_slice_get keys j y.0 x.0 y.1 in
      let no = apart_from_distinct (λ x y. bytes_eq x.items y.items) keys i j x.0 distinct less (slice_get_within keys j y.0 y.1) in
      false≢true (sym no ∙ (bytes_eq-Decides (get_or keys i x.0).items (get_or keys j x.0).items).1 (ap (λ (k : Vec ℕ Y). k.items) a ∙ sym x.2 ∙ y.2 ∙ ap (λ (k : Vec ℕ Y). k.items) (sym b)))

  -- keys of which no two are equal have distinct names
  pub distinct_names : (keys : List (Vec ℕ Y)) → IsDistinct (λ x y. bytes_eq x.items y.items) keys → AreDistinct (map (λ key. key.items) keys)
  distinct_names keys distinct i j name p q = grind (arith, common_steps, apart) steps 200000

  -- a new key goes last
  pub inserted : (keys : List (Vec ℕ Y)) (key : Vec ℕ Y) (name : List ℕ) → key.items ≡ name → list_any (λ other. bytes_eq name other.items) keys ≡ false
      → map (λ key. key.items) (insert_key (λ x y. bytes_eq x.items y.items) keys key) ≡ map (λ key. key.items) keys ++ name ∷ []
  inserted keys key name is new = grind (arith, common_steps, map_push (λ key. key.items) keys key) steps 200000

before_map : {X Y : Type 0} (test : Y → Bool) (f : X → Y) (xs : List X) → position_or_len test (map f xs) ≡ position_or_len (λ x. test (f x)) xs
before_map test f [] = refl
before_map test f (x ∷ xs) = ap (λ (k : ℕ). cond (not (test (f x))) (1 + k) 0) (before_map test f xs)

-- the number by the keys is that by the names
pub number_by_keys : {Y : Type 0} (name : List ℕ) (keys : List (Vec ℕ Y)) → position (λ key. bytes_eq name key.items) keys ≡ number_in (map (λ key. key.items) keys) name
number_by_keys name keys = sym (rw (before_map (bytes_eq name) (λ key. key.items) keys, length-map keys (λ key. key.items)) refl)

pub first_found : (name : List ℕ) (names : List (List ℕ)) → position_or_len (bytes_eq name) names < length names → slice_get names (position_or_len (bytes_eq name) names) ≡ Some name
first_found name [] h = absurd (omega (arith, h))
first_found name (x ∷ names) h = by (bytes_eq name x) refl h (λ l. first_found name names l)
  where
    by : (b : Bool) → bytes_eq name x ≡ b → cond (not b) (1 + position_or_len (bytes_eq name) names) 0 < suc (length names) → (position_or_len (bytes_eq name) names < length names → slice_get names (position_or_len (bytes_eq name) names) ≡ Some name)
        → slice_get (x ∷ names) (cond (not b) (1 + position_or_len (bytes_eq name) names) 0) ≡ Some name
    by true e h rest = ap Some (sym ((bytes_eq-Decides name x).0 e))
    by false e h rest = grind (arith, common_steps) steps 200000

-- a number that is found is that of the name
pub number_names : (names : List (List ℕ)) (name : List ℕ) (n : ℕ) → number_in names name ≡ Some n → slice_get names n ≡ Some name
number_names names name n h = grind (arith, common_steps, first_found, ltb-true, same_Some) steps 200000

-- a test of names by their keys
pub any_by_keys : {Y : Type 0} (name : List ℕ) (keys : List (Vec ℕ Y)) → list_any (bytes_eq name) (map (λ key. key.items) keys) ≡ list_any (λ key. bytes_eq name key.items) keys
any_by_keys name [] = refl
any_by_keys name (x ∷ keys) = ap (λ r. bytes_eq name x.items || r) (any_by_keys name keys)

-- what a new name after the others leaves
pub added_grows : {E : Type 0} (r : Result ℕ E) (old new : List (List ℕ)) (name : List ℕ) → IfOk r (λ n. (n ≡ length old) × (new ≡ old ++ name ∷ [])) → OnErr r (new ≡ old) → Begins old new
added_grows r old new name h e = grind (arith, common_steps, get_join) steps 200000

first_within : (name : List ℕ) (names : List (List ℕ)) (n : ℕ) → slice_get names n ≡ Some name → position_or_len (bytes_eq name) names < length names
first_within name [] n h = cc
first_within name (x ∷ names) zero h = grind (arith, common_steps, bytes_eq-Decides, false≢true, same_Some) steps 200000
first_within name (x ∷ names) (suc n) h = grind (arith, common_steps, first_within name names n h) steps 200000

-- if names are distinct, it is that place
pub number_of_named : (names : List (List ℕ)) (name : List ℕ) (n : ℕ) → AreDistinct names → slice_get names n ≡ Some name → number_in names name ≡ Some n
number_of_named names name n distinct there = by (number_in names name) refl
  where
    by : (r : Option ℕ) → number_in names name ≡ r → number_in names name ≡ Some n
    by None e = absurd (grind (arith, common_steps, first_within, ltb-false) steps 200000)
    by (Some m) e = e ∙ ap Some (distinct m n name (grind (arith, common_steps, first_found, ltb-true, same_Some) steps 200000) there)

-- what the tables say of a name is what they say by its number
pub declared_named : (all : List (List ℕ)) (tables : Tables) (n : ℕ) (name : List ℕ) → AreDistinct all → IsNameNumber all n name → declared_at tables n ≡ table_name all tables name
declared_named all tables n name distinct there = ap (declared_for tables) (sym (number_of_named all name n distinct there))

pub name_there : (all : List (List ℕ)) (n : ℕ) → n < length all → IsNameNumber all n (name_at all n)
name_there all n l = slice_get-get_or all n [] l

pub name_read : (all : List (List ℕ)) (n : ℕ) (name : List ℕ) → IsNameNumber all n name → name_at all n ≡ name
name_read all n name there = get_or_from_slice_get all n name [] there

-- one of some numbers is that of the name at its place
pub number_at : (all : List (List ℕ)) (numbers : List ℕ) (names : List (List ℕ)) (i d : ℕ) → AreNameNumbers all numbers names → i < length numbers → IsNameNumber all (get_or numbers i d) (get_or names i [])
number_at all numbers names i d h l = h.each i (get_or numbers i d) (slice_get-get_or numbers i d l)
