-- What is found is the fault, and what is kept is sound.
use Rattle.std.proofs.Common.{length, length-append, ap, arith, ◌≡◌, ℕ, zero, suc, pred, ◌+◌, ◌-◌, ◌≤◌, ◌<◌, Bool, true, false, cond, ◌||◌, ◌==◌, Option, Some, None, List, [], ◌∷◌, ◌++◌, find}
use Rattle.std.proofs.{Common.{slice_get, refl, sym, ◌∙◌, subst, inl, inr, ◌⊎◌}, lemmas.{Grind.{common_steps}, Bool.{false≢true, and_right, and_left, or_from, ne_eqb}, Option.{slice_get_past}}}
use Rattle.mm_frame.proofs.lemmas.scope.Facts.{sound_more}
use Rattle.mm_frame.specs.Language.Sound.{AreSound, closing_word, at_symbol, as_any, as_first, as_second, as_later, is_third, is_repeated, is_declared, is_active_symbol, is_label, is_no_constant}
use Rattle.mm_frame.specs.Language.Sound.{is_no_variable, is_no_active_symbol, is_untyped, is_typed, is_typed_otherwise, line_holds, IsSound, row, IsStatementFault, numbers, number_at, fault_or}
use Rattle.mm_frame.specs.{Language.{Sound.{fault_from, fault, judged, sound_items_after, sound_items}, Scope.{is_inside}}, declared.FrameNumber.{FrameNumber}}
use Rattle.mm_frame.specs.declared.FrameNumber.TheVariants.{F01, F02, F03, F04, F05, F08, F09, F10, F11, F12, F13, F14}
use native.Mathlib.Decide.{dec_lt}
use Rattle.mm_statement.specs.Language.Item.{first_symbol, Said, is_kind, Constants, Disjoint, Floating, Variables, is_declaring, is_expression, is_labelled}

-- no line holds after the statement's words
past_symbols : (test : ℕ → List ℕ → Bool) (item : Said) (word : ℕ) → closing_word item < word → at_symbol test item word ≡ false
past_symbols test item word l = grind (arith, common_steps, slice_get_past item.symbols (word - first_symbol item) (omega arith), and_right) steps 200000

past_line : (before : List Said) (item : Said) (word : ℕ) (number : FrameNumber) → closing_word item < word → line_holds before item word number ≡ false
past_line before item word F01 l = grind (arith, common_steps, and_right (is_kind Floating item.kind) _ (past_symbols is_third item word l), or_from, and_right, ne_eqb) steps 200000
past_line before item word F02 l = and_right (is_kind Constants item.kind) _ (and_left (word == 0) (is_inside before) (ne_eqb word 0 (λ e. omega arith)))
past_line before item word F03 l = and_right (is_declaring item.kind || is_kind Disjoint item.kind) _ (past_symbols (is_repeated item) item word l)
past_line before item word F04 l =
    or_from _ _ (and_right (is_kind Constants item.kind) _ (past_symbols (as_any (is_declared before)) item word l))
    (and_right (is_kind Variables item.kind) _ (past_symbols (as_any (is_active_symbol before)) item word l))
past_line before item word F05 l = and_right (is_declaring item.kind) _ (past_symbols (as_any (is_label before)) item word l)
past_line before item word F08 l = and_right (is_labelled item.kind) _ (past_symbols (as_first (is_no_constant before)) item word l)
past_line before item word F09 l =
    or_from _ _ (and_right (is_kind Disjoint item.kind) _ (past_symbols (as_any (is_no_variable before)) item word l))
    (and_right (is_kind Floating item.kind) _ (past_symbols (as_second (is_no_variable before)) item word l))
past_line before item word F10 l = and_right (is_expression item.kind) _ (past_symbols (as_later (is_no_active_symbol before)) item word l)
past_line before item word F11 l = and_right (is_expression item.kind) _ (past_symbols (as_later (is_untyped before)) item word l)
past_line before item word F12 l = and_right (is_kind Floating item.kind) _ (past_symbols (as_second (is_typed before)) item word l)
past_line before item word F13 l = and_right (is_kind Floating item.kind) _ (past_symbols (as_second (is_typed_otherwise before item)) item word l)
past_line before item word F14 l = refl
past_line before item word _ l = and_left (word == 0) _ (ne_eqb word 0 (λ e. omega arith))

-- the numbers, by their places
number_there : (n : FrameNumber) → slice_get numbers (pred (row n)) ≡ Some n
number_there n = grind (arith, common_steps) steps 200000

abbrev row_or : Option FrameNumber → ℕ
row_or None = 0
row_or (Some n) = row n

rows : (k : ℕ) (n : FrameNumber) → slice_get numbers k ≡ Some n → row n ≡ suc k
rows (suc (suc (suc (suc (suc (suc (suc (suc (suc (suc (suc (suc (suc (suc k)))))))))))))) n e = cc
rows _ n e = sym (ap row_or e)

-- the first element that passes a test
pub record IsFirst {X : Type 0} (p : X → Bool) (xs : List X) (x : X) : Type 0 where
  pub at : ℕ
  pub there : slice_get xs at ≡ Some x
  pub good : p x ≡ true
  pub first : (j : ℕ) (y : X) → slice_get xs j ≡ Some y → p y ≡ true → at ≤ j

find_at : {X : Type 0} (p : X → Bool) (y : X) (ys : List X) (x : X) (b : Bool) → p y ≡ b → cond b (Some y) (find p ys) ≡ Some x → (find p ys ≡ Some x → IsFirst p ys x) → IsFirst p (y ∷ ys) x
find_at p y ys x true t e r = let q : y ≡ x = cc in record { at = 0; there = e; good = subst (λ w. p w ≡ true) q t; first = λ j z s h. omega arith }
find_at p y ys x false t e r = let i = r e in record { at = suc i.at; there = i.there; good = i.good; first = λ j z s h. later j z s h }
  where
    later : (j : ℕ) (z : _) → slice_get (y ∷ ys) j ≡ Some z → p z ≡ true → suc (r e).at ≤ j
    later zero z s h = let q : y ≡ z = cc in absurd (false≢true (sym t ∙ ap p q ∙ h))
    later (suc j) z s h = let l = (r e).first j z s h in omega arith

find_first : {X : Type 0} (p : X → Bool) (xs : List X) (x : X) → find p xs ≡ Some x → IsFirst p xs x
find_first p [] x e = cc
find_first p (y ∷ ys) x e = find_at p y ys x (p y) refl e (λ h. find_first p ys x h)

none_at : {X : Type 0} (p : X → Bool) (y : X) (ys : List X) (j : ℕ) (x : X) (b : Bool) → p y ≡ b → cond b (Some y) (find p ys) ≡ None → slice_get (y ∷ ys) j ≡ Some x → ((k : ℕ) → find p ys ≡ None → slice_get ys k ≡ Some x → p x ≡ false) → p x ≡ false
none_at p y ys j x true t e s r = cc
none_at p y ys zero x false t e s r = let q : y ≡ x = cc in subst (λ w. p w ≡ false) q t
none_at p y ys (suc j) x false t e s r = r j e s

find_none : {X : Type 0} (p : X → Bool) (xs : List X) (j : ℕ) (x : X) → find p xs ≡ None → slice_get xs j ≡ Some x → p x ≡ false
find_none p [] j x e s = cc
find_none p (y ∷ ys) j x e s = none_at p y ys j x (p y) refl e s (λ k f g. find_none p ys k x f g)

none_here : (before : List Said) (item : Said) (word : ℕ) (n : FrameNumber) → number_at before item word ≡ None → line_holds before item word n ≡ false
none_here before item word n e = find_none (λ number. line_holds before item word number) numbers (pred (row n)) n e (number_there n)

-- what a search among words says
pub record IsLeast (before : List Said) (item : Said) (start word : ℕ) (n : FrameNumber) : Type 0 where
  pub found : number_at before item word ≡ Some n
  pub least : (v : ℕ) → start ≤ v → v < word → number_at before item v ≡ None

least_at : (before : List Said) (item : Said) (start : ℕ) (o : Option FrameNumber) (later : Option (ℕ × FrameNumber)) (w : ℕ) (n : FrameNumber)
    → number_at before item start ≡ o → fault_or start o later ≡ Some (w, n) → (later ≡ Some (w, n) → IsLeast before item (suc start) w n × (suc start ≤ w))
    → IsLeast before item start w n × (start ≤ w)
least_at before item start (Some m) later w n t e r = grind (arith, common_steps, number_there, slice_get) steps 200000
least_at before item start None later w n t e r =
    let i = r e in
    let l = i.1 in (
      record { found = i.0.found; least = λ v a b. at_start v a b (elim (dec_lt start v) [ yes l ↦ inr (omega arith) | no m ↦ inl (omega arith) ]) },
      omega arith,
    ) where
      at_start : (v : ℕ) → start ≤ v → v < w → (start ≡ v) ⊎ (suc start ≤ v) → number_at before item v ≡ None
      at_start v a b (inl q) = subst (λ x. number_at before item x ≡ None) q t
      at_start v a b (inr l) = (r e).0.least v l b

least_from : (before : List Said) (item : Said) (start more w : ℕ) (n : FrameNumber) → fault_from before item start more ≡ Some (w, n) → IsLeast before item start w n × (start ≤ w)
least_from before item start zero w n e = cc
least_from before item start (suc more) w n e = least_at before item start (number_at before item start) (fault_from before item (suc start) more) w n refl e (λ h. least_from before item (suc start) more w n h)

nowhere_at : (o : Option FrameNumber) (start : ℕ) (later : Option (ℕ × FrameNumber)) → fault_or start o later ≡ None → (o ≡ None) × (later ≡ None)
nowhere_at o start later e = grind (arith, common_steps) steps 200000

nowhere : (before : List Said) (item : Said) (start more v : ℕ) → fault_from before item start more ≡ None → start ≤ v → v < start + more → number_at before item v ≡ None
nowhere before item start zero v e a b = absurd (omega arith)
nowhere before item start (suc more) v e a b =
    let h = nowhere_at (number_at before item start) start (fault_from before item (suc start) more) e in
    elim (dec_lt start v) [
      | yes l ↦ nowhere before item (suc start) more v h.1 (omega arith) (omega arith)
      | no m ↦ (let q : start ≡ v = omega arith in subst (λ x. number_at before item x ≡ None) q h.0)
    ]

-- the fault that is found is the fault
pub found_fault : (before : List Said) (item : Said) (w : ℕ) (n : FrameNumber) → fault before item ≡ Some (w, n) → IsStatementFault before item w n
found_fault before item w n e =
    let i = (least_from before item 0 (closing_word item + 1) w n e).0 in
    let f = find_first (λ number. line_holds before item w number) numbers n i.found in
    record {
      holds = f.good;
      least_word = grind (arith, common_steps, i.least, dec_lt, false≢true, none_here) steps 200000;
      lowest_number = λ m h. let l = f.first (pred (row m)) m (number_there m) h in let a = rows f.at n f.there in let b = rows (pred (row m)) m (number_there m) in omega arith;
    }

-- a statement without a fault is sound
pub no_fault_sound : (before : List Said) (item : Said) → fault before item ≡ None → IsSound before item
no_fault_sound before item e word number = elim (dec_lt (closing_word item) word) [
  | yes l ↦ past_line before item word number l
  | no g ↦ none_here before item word number (nowhere before item 0 (closing_word item + 1) word e (omega arith) (omega arith))
]

pub one_fault : (before : List Said) (item : Said) (w v : ℕ) (n m : FrameNumber) → IsStatementFault before item w n → IsStatementFault before item v m → (w ≡ v) × (n ≡ m)
one_fault before item w v n m a b =
    let x = a.least_word v m b.holds in
    let y = b.least_word w n a.holds in
    let same : w ≡ v = omega arith in
    grind (arith, common_steps, number_there, slice_get) steps 200000

pub fault_cases : (before : List Said) (item : Said) → ((w : ℕ) × (n : FrameNumber) × IsStatementFault before item w n) ⊎ IsSound before item
fault_cases before item = by_fault (fault before item) refl
  where
    by_fault : (o : Option (ℕ × FrameNumber)) → fault before item ≡ o → ((w : ℕ) × (n : FrameNumber) × IsStatementFault before item w n) ⊎ IsSound before item
    by_fault (Some at) e = inl (at.0, at.1, found_fault before item at.0 at.1 e)
    by_fault None e = inr (no_fault_sound before item e)

pub fault_found : (before : List Said) (item : Said) (w : ℕ) (n : FrameNumber) → IsStatementFault before item w n → fault before item ≡ Some (w, n)
fault_found before item w n h = by_fault (fault before item) refl
  where
    by_fault : (o : Option (ℕ × FrameNumber)) → fault before item ≡ o → fault before item ≡ Some (w, n)
    by_fault (Some at) e = let s = one_fault before item at.0 w at.1 n (found_fault before item at.0 at.1 e) h in e ∙ (λ i. Some (s.0 i, s.1 i))
    by_fault None e = absurd (false≢true (sym (no_fault_sound before item e w n) ∙ h.holds))

pub sound_found : (before : List Said) (item : Said) → IsSound before item → fault before item ≡ None
sound_found before item s = by_fault (fault before item) refl
  where
    by_fault : (o : Option (ℕ × FrameNumber)) → fault before item ≡ o → fault before item ≡ None
    by_fault (Some at) e = absurd (false≢true (sym (s at.0 at.1) ∙ (found_fault before item at.0 at.1 e).holds))
    by_fault None e = e

-- an item as it is judged is sound
judged_sound : (before : List Said) (item : Said) (o : Option (ℕ × FrameNumber)) → fault before item ≡ o → IsSound before (judged item o)
judged_sound before item o e = grind (arith, common_steps, no_fault_sound) steps 200000

pub none_sound : AreSound []
none_sound front item back e = absurd (omega (arith, ap length e, length-append front (item ∷ back)))

pub kept_after_sound : (before items : List Said) → AreSound before → AreSound (sound_items_after before items)
kept_after_sound before [] k = k
kept_after_sound before (item ∷ items) k = kept_after_sound (before ++ judged item (fault before item) ∷ []) items (sound_more before (judged item (fault before item)) k (judged_sound before item (fault before item) refl))

-- how the items are kept, from left to right
pub kept_after_append : (before xs ys : List Said) → sound_items_after before (xs ++ ys) ≡ sound_items_after (sound_items_after before xs) ys
kept_after_append before [] ys = refl
kept_after_append before (x ∷ xs) ys = kept_after_append (before ++ judged x (fault before x) ∷ []) xs ys

pub kept_next : (items : List Said) (item : Said) → sound_items (items ++ item ∷ []) ≡ sound_items items ++ judged item (fault (sound_items items) item) ∷ []
kept_next items item = kept_after_append [] items (item ∷ [])
