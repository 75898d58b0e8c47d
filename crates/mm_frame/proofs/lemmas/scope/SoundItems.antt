-- Sound lists keep their items, and labels keep their meaning.
use Rattle.std.proofs.Common.{subst, ◌∙◌, arith, ◌≡◌, ℕ, zero, suc, Bool, true, false, cond, Some, List, [], ◌∷◌, ◌++◌, map, filter, take, drop, slice_get, refl, sym, ap, append-nil, inl, inr, ◌⊎◌}
use Rattle.std.proofs.{Math.Seq.{split_at as seam}, lemmas.{Option.{slice_get_within, get_or_from_slice_get}, Grind.{common_steps}, Bool.{false≢true, or_left, or_right, false_from_ne_true}}}
use Rattle.std.specs.List.{list_any}
use Rattle.mm_frame.proofs.lemmas.{scope.Facts.{sound_front, not_constant, first_constant, known, float_variable, float_two}, lists.Members.{In, in_flat, in_get, has_in, in_has}}
use Rattle.mm_frame.{proofs.lemmas.frames.Frames.{constants_later, variables_later}, specs.Language.{Scope.{stays, constants, labels, active_variables}, Sound.{is_label, IsSound, AreSound}}}
use Rattle.mm_frame.specs.{Language.Framing.{symbol, expression, meaning, resolve_from, resolve}, declared.FrameNumber.TheVariants.{F06}}
use Rattle.mm_machine.specs.Language.Frame.{Unknown}
use Rattle.mm_statement.specs.Language.Item.{Said, is_kind, Floating, is_labelled, has, labels_of}

-- an item by its number
pub split_at : {X : Type 0} (xs : List X) (i : ℕ) (x : X) → slice_get xs i ≡ Some x → xs ≡ take i xs ++ x ∷ drop (suc i) xs
split_at xs i x e = seam xs i x (slice_get_within xs i x e) ∙ ap (λ w. take i xs ++ w ∷ drop (suc i) xs) (get_or_from_slice_get xs i x x e)

pub map_same : {X Y : Type 0} (f g : X → Y) (xs : List X) → ((x : X) → In x xs → f x ≡ g x) → map f xs ≡ map g xs
map_same f g [] h = refl
map_same f g (x ∷ xs) h = let a = h x (inl refl) in let b = map_same f g xs (λ y k. h y (inr k)) in cc

pub filter_same : {X : Type 0} (p q : X → Bool) (xs : List X) → ((x : X) → In x xs → p x ≡ q x) → filter p xs ≡ filter q xs
filter_same p q [] h = refl
filter_same p q (x ∷ xs) h = let a = h x (inl refl) in let b = filter_same p q xs (λ y k. h y (inr k)) in λ i. cond (a i) (x ∷ b i) (b i)

-- each symbol of a sound labelled statement is a constant or an active variable
float_symbol : (before : List Said) (item : Said) (k : ℕ) (name : List ℕ) → IsSound before item → is_kind Floating item.kind ≡ true → slice_get item.symbols (suc k) ≡ Some name → In name (active_variables before)
float_symbol before item zero name s t g = float_variable before item name s t g
float_symbol before item (suc k) name s t g = let two = float_two before item s t in let n = ap (λ w. slice_get w (suc (suc k))) two.2 in cc

pub named : (before : List Said) (item : Said) (name : List ℕ) → IsSound before item → is_labelled item.kind ≡ true → In name item.symbols → In name (constants before) ⊎ In name (active_variables before)
named before item name s t h = by_place (in_get name item.symbols h)
  where
    by_place : (p : (k : ℕ) × (slice_get item.symbols k ≡ Some name)) → In name (constants before) ⊎ In name (active_variables before)
    by_place (zero, g) = inl (first_constant before item name s t g)
    by_place (suc k, g) = grind (arith, common_steps, float_symbol, known) steps 200000

has_not : (names : List (List ℕ)) (name : List ℕ) → (In name names → ⊥) → has names name ≡ false
has_not names name n = false_from_ne_true (has names name) (λ e. n (has_in names name e))

-- a symbol of an active statement means what it meant there
pub variable_kept : (front : List Said) (item : Said) (back : List Said) (name : List ℕ) → AreSound (front ++ item ∷ back) → is_labelled item.kind ≡ true
    → stays back ≡ true → In name item.symbols → has (active_variables (front ++ item ∷ back)) name ≡ has (active_variables front) name
variable_kept front item back name k t s h =
    let whole = front ++ item ∷ back in
    elim (named front item name (k front item back refl) t h) [
      | inl c ↦ has_not (active_variables whole) name (λ v. not_constant whole k name (constants_later front item back name c) v) ∙ sym (has_not (active_variables front) name (λ v. not_constant front (sound_front front (item ∷ back) k) name c v))
      | inr v ↦ in_has (active_variables whole) name (variables_later front item back name (grind (arith, common_steps) steps 200000) s v)
          ∙ sym (in_has (active_variables front) name v)
    ]

pub expression_stays : (items front : List Said) (item : Said) (back : List Said) → AreSound items → items ≡ front ++ item ∷ back → is_labelled item.kind ≡ true → stays back ≡ true → expression items item ≡ expression front item
expression_stays items front item back h e t s =
    map_same (symbol items) (symbol front) item.symbols (λ name n. (grind (arith, common_steps, variable_kept front item back name (subst AreSound e h) t s n) steps 200000))

-- labels
pub in_any : {X : Type 0} (p : X → Bool) (x : X) (xs : List X) → In x xs → p x ≡ true → list_any p xs ≡ true
in_any p x [] h t = absurd h
in_any p x (y ∷ xs) (inl e) t = or_left (p y) (list_any p xs) (ap p e ∙ t)
in_any p x (y ∷ xs) (inr h) t = or_right (p y) (list_any p xs) (in_any p x xs h t)

-- a label is no label before its statement
pub label_new : (before : List Said) (item : Said) (label : List ℕ) → IsSound before item → has (labels_of item) label ≡ true → has (labels before) label ≡ false
label_new before item label s h = false_from_ne_true (has (labels before) label) (λ t. false≢true (sym (s 0 F06) ∙ in_any (is_label before) label (labels_of item) (has_in (labels_of item) label h) t))

no_label : (items : List Said) (label : List ℕ) → has (labels items) label ≡ false → (x : Said) → In x items → has (labels_of x) label ≡ false
no_label items label h x i = has_not (labels_of x) label (λ k. false≢true (sym h ∙ in_has (labels items) label (in_flat labels_of x label items i k)))

resolve_skip : (whole before front rest : List Said) (label : List ℕ) → ((x : Said) → In x front → has (labels_of x) label ≡ false) → resolve_from whole before (front ++ rest) label ≡ resolve_from whole (before ++ front) rest label
resolve_skip whole before [] rest label h = ap (λ w. resolve_from whole w rest label) (sym (append-nil before))
resolve_skip whole before (x ∷ front) rest label h =
    grind (arith, common_steps, resolve_skip whole (before ++ x ∷ []) front rest label (λ y k. h y (inr k))) steps 200000

pub no_item_unknown : (items : List Said) (label : List ℕ) → ((item : Said) → In item items → has (labels_of item) label ≡ false) → resolve items label ≡ Unknown
no_item_unknown items label h = ap (λ w. resolve_from items [] w label) (sym (append-nil items)) ∙ resolve_skip items [] items [] label h

-- a label that an item has is that item's
pub resolve_meaning : (items front : List Said) (item : Said) (back : List Said) (label : List ℕ) → AreSound items → items ≡ front ++ item ∷ back → has (labels_of item) label ≡ true → resolve items label ≡ meaning items front item back
resolve_meaning items front item back label h e t =
    grind (arith, common_steps, resolve_skip items [] front (item ∷ back) label (no_label front label (label_new front item label (h front item back e) t))) steps 200000
