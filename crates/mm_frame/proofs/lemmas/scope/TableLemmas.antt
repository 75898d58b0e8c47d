-- What is looked up by number is what the definitions say.
use Rattle.std.proofs.Common.{arith, ◌≡◌, ℕ, suc, Bool, true, false, cond, not, ◌&&◌, Some, None, List, [], ◌∷◌, ◌++◌, length, drop, slice_get, slice_index_or, bytes_eq, refl, sym, ◌∙◌, ap, subst}
use Rattle.std.proofs.{Common.{append_assoc, inl, inr, ◌⊎◌}, lemmas.{Grind.{common_steps}, Bool.{false≢true, or_parts, or_cases, and_from, false_from_ne_true, and_parts}, Slice.Eq.{bytes_eq-Decides}}}
use Rattle.std.specs.{Prelude.{is_some}, List.{list_any}}
use Rattle.mm_frame.proofs.lemmas.lists.Members.{first_cases, in_first, in_later, In, in_right, in_cases, in_filter, from_filter, in_flat, from_flat, in_get, has_in, in_has, from_symbols, to_symbols}
use Rattle.mm_frame.proofs.lemmas.scope.{ActiveBySplit.{active_in, split_active, stays_front}, Facts.{no_symbol_of, apart, float_two, float_new}, SoundItems.{label_new, in_any}}
use Rattle.mm_frame.{proofs.lemmas.frames.Frames.{from_typed, to_typed}, specs.Language.Scope.{stays, active, constants, variables, labels, active_variables, floats, typed}}
use Rattle.mm_frame.specs.{Language.Sound.{as_any, as_second, is_active_symbol, is_typed_otherwise, IsSound, AreSound}, declared.FrameNumber.TheVariants.{F04, F13}}
use Rattle.mm_frame.specs.Code.LastItems.{number_or_first, last_where, is_active_at, is_active_last, declares_variable, types, carries, is_otherwise_at}
use Rattle.mm_statement.specs.Language.Item.{Said, is_kind, Floating, Variables, has, labels_of, typecode_of, variable_of, item_at}

-- one more item: it is the last that passes, or else the same one is
pub last_where_next : (test : Said → Bool) (items : List Said) (item : Said) → last_where test (items ++ item ∷ []) ≡ cond (test item) (Some (length items)) (last_where test items)
last_where_next test [] item = refl
last_where_next test (x ∷ items) item = grind (arith, common_steps, last_where_next test items item) steps 200000

-- the item between those before it and those after it
pub item_between : (front : List Said) (item : Said) (back : List Said) → item_at (front ++ item ∷ back) (length front) ≡ item
item_between [] item back = refl
item_between (x ∷ front) item back = item_between front item back

pub drop_between : (front : List Said) (item : Said) (back : List Said) → drop (suc (length front)) (front ++ item ∷ back) ≡ back
drop_between [] item back = refl
drop_between (x ∷ front) item back = drop_between front item back

pub active_between : (front : List Said) (item : Said) (back : List Said) → is_active_at (front ++ item ∷ back) (length front) ≡ stays back
active_between front item back = ap stays (drop_between front item back)

-- none passes
pub last_none : (test : Said → Bool) (items : List Said) → ((y : Said) → In y items → test y ≡ false) → last_where test items ≡ None
last_none test [] h = refl
last_none test (x ∷ items) h = ap (λ o. number_or_first o (test x)) (last_none test items (λ y k. h y (inr k))) ∙ ap (λ b. cond b (Some 0) None) (h x (inl refl))

-- an item that passes, with none after it that does, is the last
pub last_is : (test : Said → Bool) (front : List Said) (item : Said) (back : List Said) → test item ≡ true → ((y : Said) → In y back → test y ≡ false) → last_where test (front ++ item ∷ back) ≡ Some (length front)
last_is test [] item back t h = ap (λ o. number_or_first o (test item)) (last_none test back h) ∙ ap (λ b. cond b (Some 0) None) t
last_is test (x ∷ front) item back t h = ap (λ o. number_or_first o (test x)) (last_is test front item back t h)

-- where the last item that passes is
pub record Last (test : Said → Bool) (items : List Said) : Type 0 where
  pub front : List Said
  pub item : Said
  pub back : List Said
  pub whole : items ≡ front ++ item ∷ back
  pub good : test item ≡ true
  pub later : (y : Said) → In y back → test y ≡ false

-- no item passes
abbrev pub NonePasses : (Said → Bool) → List Said → Type 0
NonePasses test items = (y : Said) → In y items → test y ≡ false

last_cases_at : (test : Said → Bool) (x : Said) (xs : List Said) (b : Bool) → test x ≡ b → NonePasses test xs → NonePasses test (x ∷ xs) ⊎ Last test (x ∷ xs)
last_cases_at test x xs true e n = inr (record { front = []; item = x; back = xs; whole = refl; good = e; later = n })
last_cases_at test x xs false e n = inl (λ y h. elim h [ inl q ↦ ap test (sym q) ∙ e | inr k ↦ n y k ])

pub last_cases : (test : Said → Bool) (items : List Said) → NonePasses test items ⊎ Last test items
last_cases test [] = inl (λ y h. absurd h)
last_cases test (x ∷ xs) = elim (last_cases test xs) [
  | inl n ↦ last_cases_at test x xs (test x) refl n
  | inr l ↦ inr (record { front = x ∷ l.front; item = l.item; back = l.back; whole = ap (λ w. x ∷ w) l.whole; good = l.good; later = l.later })
]

pub last_number : (test : Said → Bool) (items : List Said) (l : Last test items) → last_where test items ≡ Some (length l.front)
last_number test items l = ap (last_where test) l.whole ∙ last_is test l.front l.item l.back l.good l.later

-- an active item comes before an item and was active there, or is that item, or comes after it
pub active_cases : (front : List Said) (item : Said) (back : List Said) (i : Said) → In i (active (front ++ item ∷ back)) → In i (active front) ⊎ (((item ≡ i) × (stays back ≡ true)) ⊎ In i (active back))
active_cases [] item back i h = inr (first_cases (stays back) item i (active back) h)
active_cases (x ∷ front) item back i h = elim (first_cases (stays (front ++ item ∷ back)) x i (active (front ++ item ∷ back)) h) [
  | inl p ↦ inl (subst (λ w. In w (active (x ∷ front))) p.0 (in_first (stays front) x (active front) (stays_front front (item ∷ back) p.1)))
  | inr k ↦ grind (arith, common_steps, active_cases front item back i k, in_later) steps 200000
]

-- if no two items that pass are active at once, one that passes is active if the last one is
last_active : (test : Said → Bool) (before : List Said) → ((front : List Said) (item : Said) (back : List Said) → before ≡ front ++ item ∷ back
    → test item ≡ true → (y : Said) → In y (active front) → test y ≡ true → ⊥) → (b : Bool) → (b ≡ true
    → (y : Said) × In y (active before) × (test y ≡ true))
    → ((y : Said) → In y (active before) → test y ≡ true → b ≡ true) → b ≡ is_active_last before (last_where test before)
last_active test before alone b from to = elim (last_cases test before) [
  | inl n ↦ false_from_ne_true b (λ t. let r = from t in false≢true (sym (n r.0 (active_in before r.0 r.1)) ∙ r.2)) ∙ sym (ap (is_active_last before) (last_none test before n))
  | inr l ↦ by_stays l (stays l.back) refl ∙ sym (ap (is_active_last before) (last_number test before l) ∙ ap (λ w. is_active_at w (length l.front)) l.whole ∙ active_between l.front l.item l.back)
]
  where
    by_stays : (l : Last test before) (s : Bool) → stays l.back ≡ s → b ≡ stays l.back
    by_stays l true e = to l.item (subst (λ w. In l.item (active w)) (sym l.whole) (split_active l.front l.item l.back e)) l.good ∙ sym e
    by_stays l false e =
        false_from_ne_true b (λ t. let r = from t in
        elim (active_cases l.front l.item l.back r.0
        (subst (λ w. In r.0 (active w)) l.whole r.1)) [
          | inl a ↦ alone l.front l.item l.back l.whole l.good r.0 a r.2
          | inr c ↦ grind
              (arith, common_steps, l.later, false≢true, active_in) steps 200000
        ]) ∙ sym e

-- the test of a `$v` of a name, and that of a `$f` of a variable
pub declared : (name : List ℕ) (item : Said) → declares_variable name item ≡ true → (is_kind Variables item.kind ≡ true) × In name item.symbols
declared name item h = let p = and_parts (is_kind Variables item.kind) (has item.symbols name) h in (p.0, has_in item.symbols name p.1)

pub typed_by : (name : List ℕ) (item : Said) → types name item ≡ true → (is_kind Floating item.kind ≡ true) × (variable_of item ≡ name)
typed_by name item h = let p = and_parts (is_kind Floating item.kind) (bytes_eq (variable_of item) name) h in (p.0, (bytes_eq-Decides (variable_of item) name).0 p.1)

-- a variable is active exactly when the last `$v` of it is
pub active_variable_last : (before : List Said) → AreSound before → (name : List ℕ) → has (active_variables before) name ≡ is_active_last before (last_where (declares_variable name) before)
active_variable_last before h name = last_active (declares_variable name) before
    (λ front item back e t y k u. let p = declared name item t in let q = declared name y u in let g = in_get name item.symbols p.1 in
    let f = no_symbol_of (is_kind Variables item.kind) (as_any (is_active_symbol front)) item
    (λ word. (or_parts _ _ ((h front item back e) word F04)).1) p.0 g.0 name g.1 in
    false≢true (sym (or_parts (has (constants front) name) (has (active_variables front) name) f).1
    ∙ in_has (active_variables front) name (to_symbols (is_kind Variables) name (active front) y k q.0 q.1)))
    (has (active_variables before) name)
    (λ t. let r = from_symbols (is_kind Variables) name (active before) (has_in (active_variables before) name t) in
    (r.0, r.1, and_from (is_kind Variables r.0.kind) (has r.0.symbols name) r.2 (in_has r.0.symbols name r.3)))
    (λ y k t. let p = declared name y t in in_has (active_variables before) name (to_symbols (is_kind Variables) name (active before) y k p.0 p.1))

-- the second symbol of a sound `$f` is its variable
pub float_second : (before : List Said) (item : Said) → IsSound before item → is_kind Floating item.kind ≡ true → slice_get item.symbols 1 ≡ Some (variable_of item)
float_second before item s t = let two = float_two before item s t in ap (λ w. slice_get w 1) two.2 ∙ ap (λ w. Some (slice_index_or w 1 [])) (sym two.2)

-- a variable is typed exactly when the last `$f` of it is active
pub typed_last : (before : List Said) → AreSound before → (name : List ℕ) → has (typed before) name ≡ is_active_last before (last_where (types name) before)
typed_last before h name = last_active (types name) before
    (λ front item back e t y k u.
    let p = typed_by name item t in
    let q = typed_by name y u in
    let s = h front item back e in
    float_new front item (variable_of item) s p.0 (float_second front item s p.0) (subst (λ w. In w (typed front)) (q.1 ∙ sym p.1) (to_typed front y k q.0)))
    (has (typed before) name)
    (λ t. let r = from_typed before name (has_in (typed before) name t) in
    (r.0, r.1, and_from (is_kind Floating r.0.kind) (bytes_eq (variable_of r.0) name) r.2 ((bytes_eq-Decides (variable_of r.0) name).1 r.3)))
    (λ y k t. let p = typed_by name y t in in_has (typed before) name (subst (λ w. In w (typed before)) p.1 (to_typed before y k p.0)))

-- what tests find
pub any_in : {X : Type 0} (p : X → Bool) (xs : List X) → list_any p xs ≡ true → (x : X) × In x xs × (p x ≡ true)
any_in p [] h = absurd (false≢true h)
any_in p (x ∷ xs) h = elim (or_cases (p x) (list_any p xs) h) [ inl e ↦ (x, inl refl, e) | inr t ↦ (let r = any_in p xs t in (r.0, inr r.1, r.2)) ]

-- the test of another `$f` of the variable with another typecode
abbrev differs : List ℕ → Said → Said → Bool
differs name item other = bytes_eq (variable_of other) name && not (bytes_eq (typecode_of other) (typecode_of item))

otherwise_from : (before : List Said) (item : Said) (name : List ℕ) → is_typed_otherwise before item name ≡ true → (y : Said) × In y before × (types name y ≡ true) × (not (bytes_eq (typecode_of y) (typecode_of item)) ≡ true)
otherwise_from before item name h =
    let r = any_in (differs name item) (floats before) h in
    let f = from_filter (λ (i : Said). is_kind Floating i.kind) r.0 before r.1 in
    grind (arith, common_steps, and_parts, bytes_eq, and_from) steps 200000

to_otherwise : (before : List Said) (item : Said) (name : List ℕ) (y : Said) → In y before → types name y ≡ true → not (bytes_eq (typecode_of y) (typecode_of item)) ≡ true → is_typed_otherwise before item name ≡ true
to_otherwise before item name y h t n = grind (arith, common_steps, and_from, and_parts, in_any, in_filter) steps 200000

-- a sound `$f` has the typecode of each earlier `$f` of its variable
same_typecode : (before : List Said) (item : Said) (name : List ℕ) (y : Said) → IsSound before item → types name item ≡ true → In y before → types name y ≡ true → typecode_of y ≡ typecode_of item
same_typecode before item name y s t h u = by_test (bytes_eq (typecode_of y) (typecode_of item)) refl
  where
    by_test : (b : Bool) → bytes_eq (typecode_of y) (typecode_of item) ≡ b → typecode_of y ≡ typecode_of item
    by_test true e = (bytes_eq-Decides (typecode_of y) (typecode_of item)).0 e
    by_test false e =
        let p = typed_by name item t in
        let f = no_symbol_of (is_kind Floating item.kind) (as_second (is_typed_otherwise before item)) item (λ word. s word F13) p.0 1 (variable_of item) (float_second before item s p.0) in
        absurd (false≢true (sym f ∙ to_otherwise before item (variable_of item) y h (subst (λ w. types w y ≡ true) (sym p.1) u) (ap not e)))

-- the last `$f` of a variable is a `$f`
pub float_at_last : (before : List Said) (name : List ℕ) (n : ℕ) → last_where (types name) before ≡ Some n → is_kind Floating (item_at before n).kind ≡ true
float_at_last before name n e = elim (last_cases (types name) before) [
  | inl none ↦ (let q : None ≡ Some n = sym (last_none (types name) before none) ∙ e in cc)
  | inr l ↦ grind (arith, common_steps, last_number (types name) before l, item_between l.front l.item l.back, typed_by name l.item l.good) steps 200000
]

-- another `$f` gives the variable another typecode exactly when the last `$f` of it does
pub typed_otherwise_last : (before : List Said) → AreSound before → (name : List ℕ) (item : Said) → is_typed_otherwise before item name ≡ is_otherwise_at before item (last_where (types name) before)
typed_otherwise_last before h name item = elim (last_cases (types name) before) [
  | inl n ↦ false_from_ne_true (is_typed_otherwise before item name) (λ t. let r = otherwise_from before item name t in false≢true (sym (n r.0 r.1) ∙ r.2)) ∙ sym (ap (is_otherwise_at before item) (last_none (types name) before n))
  | inr l ↦ by_test l (bytes_eq (typecode_of l.item) (typecode_of item)) refl
      ∙ sym (ap (is_otherwise_at before item) (last_number (types name) before l) ∙ ap (λ w. not (bytes_eq (typecode_of (item_at w (length l.front)))
      (typecode_of item))) l.whole ∙ ap (λ w. not (bytes_eq (typecode_of w) (typecode_of item))) (item_between l.front l.item l.back))
]
  where
    by_test : (l : Last (types name) before) (b : Bool) → bytes_eq (typecode_of l.item) (typecode_of item) ≡ b → is_typed_otherwise before item name ≡ not (bytes_eq (typecode_of l.item) (typecode_of item))
    by_test l false e = to_otherwise before item name l.item (subst (λ w. In l.item w) (sym l.whole) (in_right l.item l.front (l.item ∷ l.back) (inl refl))) l.good (ap not e) ∙ sym (ap not e)
    by_test l true e =
        false_from_ne_true (is_typed_otherwise before item name) (λ t.
        let r = otherwise_from before item name t in
        false≢true (sym (ap (λ w. not (bytes_eq w (typecode_of item)))
        (elim (in_cases r.0 l.front (l.item ∷ l.back) (subst (λ w. In r.0 w) l.whole r.1)) [
          | inl a ↦ same_typecode l.front l.item name r.0
              (h l.front l.item l.back l.whole) l.good a r.2
          | inr c ↦ grind (arith, l.later, false≢true) steps 200000
        ]) ∙ ap not e) ∙ r.3))
        ∙ sym (ap not e)

-- a constant is no variable
pub constant_or_variable : (before : List Said) → AreSound before → (name : List ℕ) → has (constants before) name ≡ true → has (variables before) name ≡ false
constant_or_variable before h name t = false_from_ne_true (has (variables before) name) (λ v. apart before h name (has_in (constants before) name t) (has_in (variables before) name v))

-- some item passes exactly when there is a last one
last_some : (test : Said → Bool) (before : List Said) (b : Bool) → (b ≡ true → (y : Said) × In y before × (test y ≡ true)) → ((y : Said) → In y before → test y ≡ true → b ≡ true) → b ≡ is_some (last_where test before)
last_some test before b from to = elim (last_cases test before) [
  | inl n ↦ false_from_ne_true b (λ t. let r = from t in false≢true (sym (n r.0 r.1) ∙ r.2)) ∙ sym (ap is_some (last_none test before n))
  | inr l ↦ to l.item (subst (λ w. In l.item w) (sym l.whole) (in_right l.item l.front (l.item ∷ l.back) (inl refl))) l.good ∙ sym (ap is_some (last_number test before l))
]

pub variable_last : (before : List Said) (name : List ℕ) → has (variables before) name ≡ is_some (last_where (declares_variable name) before)
variable_last before name = last_some (declares_variable name) before (has (variables before) name)
    (λ t. let r = from_symbols (is_kind Variables) name before (has_in (variables before) name t) in
    (r.0, r.1, and_from (is_kind Variables r.0.kind) (has r.0.symbols name) r.2 (in_has r.0.symbols name r.3)))
    (λ y k t. let p = declared name y t in in_has (variables before) name (to_symbols (is_kind Variables) name before y k p.0 p.1))

pub label_last : (before : List Said) (label : List ℕ) → has (labels before) label ≡ is_some (last_where (carries label) before)
label_last before label = last_some (carries label) before (has (labels before) label)
    (λ t. let r = from_flat labels_of label before (has_in (labels before) label t) in (r.0, r.1, in_has (labels_of r.0) label r.2))
    (λ y k t. in_has (labels before) label (in_flat labels_of y label before k (has_in (labels_of y) label t)))

-- where an item is in a list
pub record Stands (x : Said) (xs : List Said) : Type 0 where
  pub front : List Said
  pub back : List Said
  pub whole : xs ≡ front ++ x ∷ back

pub stands_in : (x : Said) (xs : List Said) → In x xs → Stands x xs
stands_in x [] h = absurd h
stands_in x (y ∷ xs) (inl e) = record { front = []; back = xs; whole = ap (λ w. w ∷ xs) e }
stands_in x (y ∷ xs) (inr h) = let p = stands_in x xs h in record { front = y ∷ p.front; back = p.back; whole = ap (λ w. y ∷ w) p.whole }

-- the item that has a label is the last that has it, since it is the only one
pub label_first : (before : List Said) → AreSound before → (label : List ℕ) (front : List Said) (item : Said) (back : List Said)
    → before ≡ front ++ item ∷ back → has (labels_of item) label ≡ true → last_where (carries label) before ≡ Some (length front)
label_first before h label front item back e t = ap (last_where (carries label)) e ∙ last_is (carries label) front item back t (λ y k. false_from_ne_true (carries label y) (λ u.
    let p = stands_in y back k in
    let s = h (front ++ item ∷ p.front) y p.back (e ∙ ap (λ w. front ++ item ∷ w) p.whole ∙ sym (append_assoc front (item ∷ p.front) (y ∷ p.back))) in
    false≢true (sym (label_new (front ++ item ∷ p.front) y label s u) ∙ in_has (labels (front ++ item ∷ p.front)) label
    (in_flat labels_of item label (front ++ item ∷ p.front) (in_right item front (item ∷ p.front) (inl refl)) (has_in (labels_of item) label t)))))
