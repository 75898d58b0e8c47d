-- Active pairs: they grow by those of each `$d`, an active statement reads at its own place as after all items, and which `$d` has a pair.
use Rattle.std.proofs.lemmas.{Grind.{common_steps}, List.{map_push}, Bool.{false≢true, or_cases, or_left, or_right, or_parts, and_from, false_from_ne_true, not-false, and_parts}}
use Rattle.std.proofs.lemmas.{Option.{get_or_from_slice_get}, Slice.Eq.{bytes_eq-Decides}}
use Rattle.std.proofs.Common.{take-suc, ◌≡◌, ◌≢◌, ℕ, suc, ◌<◌, Bool, true, false, cond, ◌&&◌, ◌||◌, Some, List, [], ◌∷◌, ◌++◌, length, map, filter, flat_map, take, drop, slice_get, get_or, bytes_eq}
use Rattle.std.proofs.{Common.{refl, sym, ◌∙◌, ap, subst, arith, inl, inr, ◌⊎◌}, Math.Seq.{drop-cons}}
use Rattle.mm_frame.proofs.lemmas.scope.{TableLemmas.{any_in, active_between}, SoundItems.{in_any, split_at, map_same, expression_stays}, ActiveBySplit.{active_split, split_active}}
use Rattle.mm_frame.proofs.lemmas.{scope.Facts.{no_symbol_of}, lists.Members.{get_between, In, in_left, in_right, in_cases, in_map, from_map, from_flat, in_get, has_in, in_has, in_cond}}
use Rattle.mm_frame.proofs.lemmas.frames.{Frames.{variables_later}, HypothesisNumbers.{from_active_number, active_number_items}}
use Rattle.mm_frame.specs.Language.{Scope.{stays, active, active_variables, active_numbers}, Sound.{as_any, is_no_variable, is_repeated, IsSound, AreSound}, Marks.{Neither, mark_of}}
use Rattle.mm_frame.specs.{Language.{Framing.{symbol, expression, pairs_of, active_pairs}, Answering.{are_paired}}, declared.FrameNumber.TheVariants.{F03, F09}}
use Rattle.mm_frame.specs.Code.LastItems.{is_active_at, is_disjoint_item}
use Rattle.mm_machine.specs.Language.Frame.{Symbol}
use Rattle.mm_statement.specs.Language.Item.{Kind, Said, passed, is_declaring, is_kind, Disjoint, is_labelled, has, item_at}

-- a `$d` opens and closes no block
pub disjoint_neither : (k : Kind) → is_kind Disjoint k ≡ true → mark_of k ≡ Neither
disjoint_neither k e = grind (arith, common_steps) steps 200000

-- each symbol of a sound `$d` is an active variable
pub disjoint_named : (before : List Said) (item : Said) (name : List ℕ) → IsSound before item → is_kind Disjoint item.kind ≡ true → In name item.symbols → In name (active_variables before)
disjoint_named before item name s t h =
    let g = in_get name item.symbols h in
    has_in (active_variables before) name (not-false (has (active_variables before) name) (no_symbol_of (is_kind Disjoint item.kind) (as_any (is_no_variable before)) item (λ word. (or_parts _ _ (s word F09)).0) t g.0 name g.1))

-- an active `$d` reads as at its own place
pub disjoint_stays : (items front : List Said) (item : Said) (back : List Said) → AreSound items → items ≡ front ++ item ∷ back → is_kind Disjoint item.kind ≡ true → stays back ≡ true → expression items item ≡ expression front item
disjoint_stays items front item back h e t s =
    map_same (symbol items) (symbol front) item.symbols
    (λ name n. (let same =
    (in_has (active_variables items) name
    (subst (λ w. In name (active_variables w)) (sym e)
    (variables_later front item back name (disjoint_neither item.kind t) s (disjoint_named front item name (h front item back e) t n))))
    ∙ sym (in_has (active_variables front) name (disjoint_named front item name (h front item back e) t n)) in λ i. record { name = name; variable = same i }))

-- the same by the number of the item: an active `$f`, `$e`, `$a` or `$p`, and an active `$d`
pub expression_at_number : (before : List Said) → AreSound before → (n : ℕ) (item : Said) → slice_get before n ≡ Some item → is_active_at before n ≡ true → is_labelled item.kind ≡ true → expression before item ≡ expression (take n before) item
expression_at_number before h n item e s t = expression_stays before (take n before) item (drop (suc n) before) h (split_at before n item e) t s

-- the pairs of an item, as it reads after these items
abbrev pub item_pairs : List Said → Said → List (Symbol × Symbol)
item_pairs items item = cond (is_kind Disjoint item.kind) (pairs_of (expression items item)) []

pub flat_same : {X Y : Type 0} (f g : X → List Y) (xs : List X) → ((x : X) → In x xs → f x ≡ g x) → flat_map f xs ≡ flat_map g xs
flat_same f g [] h = refl
flat_same f g (x ∷ xs) h = let a = h x (inl refl) in let b = flat_same f g xs (λ y k. h y (inr k)) in λ i. a i ++ b i

-- the active pairs, by the numbers of the active `$d`, each read at its own place
abbrev pub pairs_at : List Said → ℕ → List (Symbol × Symbol)
pairs_at items n = pairs_of (expression (take n items) (item_at items n))

disjoint_only : (items xs : List Said) → flat_map (item_pairs items) xs ≡ flat_map (λ y. pairs_of (expression items y)) (filter is_disjoint_item xs)
disjoint_only items [] = refl
disjoint_only items (x ∷ xs) = grind (arith, common_steps, disjoint_only items xs) steps 200000

pub flat_of_map : {X Y Z : Type 0} (f : Y → List Z) (g : X → Y) (xs : List X) → flat_map f (map g xs) ≡ flat_map (λ x. f (g x)) xs
flat_of_map f g [] = refl
flat_of_map f g (x ∷ xs) = ap (λ w. f (g x) ++ w) (flat_of_map f g xs)

pub active_pairs_by_numbers : (before : List Said) → AreSound before → active_pairs before ≡ flat_map (pairs_at before) (active_numbers is_disjoint_item before)
active_pairs_by_numbers before h =
    let said = λ (y : Said). pairs_of (expression before y) in
    disjoint_only before (active before) ∙ ap (flat_map said) (sym (active_number_items is_disjoint_item before)) ∙ flat_of_map said (item_at before)
    (active_numbers is_disjoint_item before)
    ∙ flat_same (λ n. said (item_at before n)) (pairs_at before) (active_numbers is_disjoint_item before)
    (λ n k. let r = from_active_number is_disjoint_item before n k in let there = get_or_from_slice_get before n r.0 passed r.1 in
    ap (λ w. pairs_of (expression before w)) there
    ∙ ap pairs_of (disjoint_stays before (take n before) r.0 (drop (suc n) before) h (split_at before n r.0 r.1) r.3 r.2)
    ∙ ap (λ w. pairs_of (expression (take n before) w)) (sym there))

-- an active item and its number
pub active_at_number : (before : List Said) (n : ℕ) (item : Said) → slice_get before n ≡ Some item → is_active_at before n ≡ true → In item (active before)
active_at_number before n item e s = subst (λ w. In item (active w)) (sym (split_at before n item e)) (split_active (take n before) item (drop (suc n) before) s)

pub record ActiveNumber (before : List Said) (item : Said) : Type 0 where
  pub number : ℕ
  pub there : slice_get before number ≡ Some item
  pub stayed : is_active_at before number ≡ true

pub number_of_active : (before : List Said) (item : Said) → In item (active before) → ActiveNumber before item
number_of_active before item a =
    let s = active_split before item a in
    grind (arith, common_steps, get_between s.front item s.back, active_between s.front item s.back) steps 200000

-- a variable with each of some others
abbrev pub pairs_with : Symbol → List Symbol → List (Symbol × Symbol)
pairs_with s others = map (λ y. (s, y)) others

-- one more pair of a variable, and the pairs of one more variable
pub row_next : {X : Type 0} (f : X → Symbol) (s : Symbol) (later : List X) (n : ℕ) (d : X) → n < length later → pairs_with s (map f (take (suc n) later)) ≡ pairs_with s (map f (take n later)) ++ (s, f (get_or later n d)) ∷ []
row_next f s later n d l = grind (arith, common_steps, take-suc later n d l, map_push) steps 200000

pub all_next : {X : Type 0} (f : X → Symbol) (variables : List X) (n : ℕ) (d : X) → n < length variables
    → pairs_of (map f (drop n variables)) ≡ pairs_with (f (get_or variables n d)) (map f (drop (suc n) variables)) ++ pairs_of
    (map f (drop (suc n) variables))
all_next f variables n d l = ap (λ w. pairs_of (map f w)) (drop-cons variables n d l)

-- of two elements of a list, one comes before the other
pub in_order : (x y : Symbol) (xs : List Symbol) → (x ≡ y → ⊥) → In x xs → In y xs → In (x, y) (pairs_of xs) ⊎ In (y, x) (pairs_of xs)
in_order x y [] n h k = absurd h
in_order x y (z ∷ xs) n (inl a) (inl b) = absurd (n (sym a ∙ b))
in_order x y (z ∷ xs) n (inl a) (inr k) =
    inl (in_left (x, y) (pairs_with z xs) (pairs_of xs) (subst (λ w. In (w, y) (pairs_with z xs)) a (in_map (λ (t : Symbol). (z, t)) y xs k)))
in_order x y (z ∷ xs) n (inr h) (inl b) =
    inr (in_left (y, x) (pairs_with z xs) (pairs_of xs) (subst (λ w. In (w, x) (pairs_with z xs)) b (in_map (λ (t : Symbol). (z, t)) x xs h)))
in_order x y (z ∷ xs) n (inr h) (inr k) = grind (arith, common_steps, in_order x y xs n h k, in_right) steps 200000

-- the names of a pair, in one order or the other
abbrev pub is_pair : Symbol × Symbol → Symbol × Symbol → Bool
is_pair named pair = (bytes_eq pair.0.name named.0.name && bytes_eq pair.1.name named.1.name) || (bytes_eq pair.0.name named.1.name && bytes_eq pair.1.name named.0.name)

abbrev pub SameNames : Symbol × Symbol → Symbol × Symbol → Type 0
SameNames named pair = ((pair.0.name ≡ named.0.name) × (pair.1.name ≡ named.1.name)) ⊎ ((pair.0.name ≡ named.1.name) × (pair.1.name ≡ named.0.name))

pub same_names : (named pair : Symbol × Symbol) → is_pair named pair ≡ true → SameNames named pair
same_names named pair t = grind (arith, common_steps, or_cases, and_parts, bytes_eq-Decides) steps 200000

pub found_pair : (named : Symbol × Symbol) (pairs : List (Symbol × Symbol)) → are_paired pairs named ≡ true → (pair : Symbol × Symbol) × In pair pairs × SameNames named pair
found_pair named pairs t = let r = any_in (is_pair named) pairs t in (r.0, r.1, same_names named r.0 r.2)

pub to_paired : (named pair : Symbol × Symbol) (pairs : List (Symbol × Symbol)) → In pair pairs → is_pair named pair ≡ true → are_paired pairs named ≡ true
to_paired named pair pairs h t = in_any (is_pair named) pair pairs h t

pub pair_here : (x y : Symbol) → is_pair (x, y) (x, y) ≡ true
pair_here x y = grind (arith, common_steps, or_left, bytes_eq, and_from, bytes_eq-Decides) steps 200000

pub pair_turned : (x y : Symbol) → is_pair (y, x) (x, y) ≡ true
pair_turned x y = grind (arith, common_steps, or_right, bytes_eq, and_from, bytes_eq-Decides) steps 200000

-- two variables of a sound `$d` have different names
abbrev pub AreUnrepeated : List (List ℕ) → Type 0
AreUnrepeated names = (k : ℕ) (name : List ℕ) → slice_get names k ≡ Some name → has (take k names) name ≡ false

pub disjoint_unrepeated : (before : List Said) (item : Said) → IsSound before item → is_kind Disjoint item.kind ≡ true → AreUnrepeated item.symbols
disjoint_unrepeated before item s t k name e = no_symbol_of (is_declaring item.kind || is_kind Disjoint item.kind) (is_repeated item) item (λ word. s word F03) (or_right (is_declaring item.kind) (is_kind Disjoint item.kind) t) k name e

apart_names : (before : List Said) (names : List (List ℕ)) → AreUnrepeated names → (pair : Symbol × Symbol) → In pair (pairs_of (map (symbol before) names)) → pair.0.name ≢ pair.1.name
apart_names before [] u pair h = absurd h
apart_names before (x ∷ names) u pair h = elim (in_cases pair (pairs_with (symbol before x) (map (symbol before) names)) (pairs_of (map (symbol before) names)) h) [
  | inl a ↦ (λ q. let s = from_map (symbol before) (from_map (λ (y : Symbol). (symbol before x, y)) pair (map (symbol before) names) a).0 names
      (from_map (λ (y : Symbol). (symbol before x, y)) pair (map (symbol before) names) a).1 in let g = in_get s.0 names s.1 in
      let same : x ≡ s.0 = ap (λ (p : Symbol × Symbol). p.0.name) (from_map (λ (y : Symbol). (symbol before x, y)) pair (map (symbol before) names) a).2 ∙ q
      ∙ ap (λ (p : Symbol × Symbol). p.1.name) (sym (from_map (λ (y : Symbol). (symbol before x, y)) pair (map (symbol before) names) a).2)
      ∙ ap (λ (w : Symbol). w.name) (sym s.2) in false≢true (sym (u (suc g.0) s.0 g.1) ∙ in_has (x ∷ take g.0 names) s.0 (inl same)))
  | inr b ↦ apart_names before names (λ k name e. false_from_ne_true (has (take k names) name) (λ t. false≢true (sym (u (suc k) name e) ∙ or_right (bytes_eq name x) (has (take k names) name) t))) pair b
]

pub from_active_pairs : (before : List Said) (pair : Symbol × Symbol) → In pair (active_pairs before) → (item : Said) × In item (active before) × (is_kind Disjoint item.kind ≡ true) × In pair (pairs_of (expression before item))
from_active_pairs before pair m = grind (arith, common_steps, from_flat, in_cond) steps 200000

-- no active pair has one name twice
pub apart_active : (before : List Said) → AreSound before → (pair : Symbol × Symbol) → In pair (active_pairs before) → pair.0.name ≢ pair.1.name
apart_active before h pair m =
    let r = from_active_pairs before pair m in
    let s = active_split before r.0 r.1 in
    apart_names before (r.0).symbols (disjoint_unrepeated s.front r.0 (h s.front r.0 s.back s.whole) r.2) pair r.3
