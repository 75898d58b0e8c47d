-- How far two bases are in step, and what labels mean there.
use Rattle.std.proofs.lemmas.{Grind.{common_steps}, Bool.{cases_Bool, false≢true}, Option.{same_Some, none-some, slice_get-get_or}, List.{get_or_push, get_or_append_left}}
use Rattle.std.proofs.Common.{rules, ◌≡◌, ◌+◌, ◌<◌, ◌≤◌, ◌⊎◌, ◌++◌, ℕ, zero, suc, cond, Bool, true, false, Option, Some, None, List, [], ◌∷◌, length, refl, sym, ◌∙◌, ap, subst, inl, inr, arith}
use Rattle.std.{proofs.{Common.{length-append, is_some, slice_get, slice_index, slice_index_or}, Math.Decide.{dec_lt}}, specs.Option.{option_map}}
use Rattle.mm_frame.specs.Language.{Base.{BaseView, said_at, is_shown_at}, Resolving.{IsLabelOf, Resolves}}
use Rattle.mm_verdict.specs.{Language.{BaseLabels.{setting_at}, SameToDecode.{IsSameLabel}}, mm_machine.Language.SameProof.{AreSameMeaning}}
use Rattle.mm_proof.specs.Language.BaseMarks.{ItemMark, MarksView, IsMark, IsToldChanged, HaveOneLabel, AreMarks, mark_at, no_mark}
use Rattle.mm_proof.specs.Code.InStep.{ordinal, AreOrdinals, AreEndsAlike, AreInStep, EndsAt, HasAlike, HasLevel, IsTold, KeepsHypothesis, MeanOne, changed_behind}
use Rattle.mm_proof.{specs.Code.KeptMarks.{ShareFrame, stands_for}, proofs.{MeaningLemmas.{means_same}, KeptMarkLemmas.{got_front}}}
use Rattle.mm_frame.specs.declared.base.Resolved as answer
use Rattle.mm_frame.specs.declared.base.Resolved.TheVariants as answers
use Rattle.mm_frame.specs.Language.Laws as frame

-- ---- ordinals

shown_step : (base : BaseView) (n : ℕ) → is_shown_at base n ≡ true → ordinal base (suc n) ≡ suc (ordinal base n)
shown_step base n e = ap (λ b. cond b (suc (ordinal base n)) (ordinal base n)) e

pub hidden_step : (base : BaseView) (n : ℕ) → is_shown_at base n ≡ false → ordinal base (suc n) ≡ ordinal base n
hidden_step base n e = ap (λ b. cond b (suc (ordinal base n)) (ordinal base n)) e

ordinal_more : (base : BaseView) (m n : ℕ) → m ≤ n → ordinal base m ≤ ordinal base n
ordinal_more base m zero l = let z : m ≡ 0 = omega (arith, l) in subst (λ k. ordinal base k ≤ 0) (sym z) (omega arith)
ordinal_more base m (suc n) l = elim (dec_lt n m) [
  | yes a ↦ (let z : m ≡ suc n = omega (arith, l, a) in subst (λ k. ordinal base k ≤ ordinal base (suc n)) (sym z) (omega arith))
  | no a ↦ (let front = ordinal_more base m n (omega (arith, a)) in
      elim (cases_Bool (is_shown_at base n)) [ inl e ↦ omega (arith, front, shown_step base n e) | inr e ↦ omega (arith, front, hidden_step base n e) ])
]

-- after an item with a label the ordinals are greater
ordinal_less : (base : BaseView) (m n : ℕ) → is_shown_at base m ≡ true → m < n → ordinal base m < ordinal base n
ordinal_less base m n e l = let here = shown_step base m e in let more = ordinal_more base (suc m) n (omega (arith, l)) in omega (arith, here, more)

-- an item with a lesser ordinal comes before
ordinal_back : (base : BaseView) (m n : ℕ) → ordinal base m < ordinal base n → m < n
ordinal_back base m n l = grind (arith, common_steps, dec_lt, ordinal_more) steps 200000

-- no two items with labels have one ordinal
one_ordinal : (base : BaseView) (m n : ℕ) → is_shown_at base m ≡ true → is_shown_at base n ≡ true → ordinal base m ≡ ordinal base n → m ≡ n
one_ordinal base m n s t e = search (rules, dec_lt, ordinal_less) steps 500000

-- before an item there is one with a label of each lesser ordinal
record HasOrdinal (base : BaseView) (n t : ℕ) : Type 0 where
  m : ℕ
  earlier : m < n
  shown : is_shown_at base m ≡ true
  ordinal_is : ordinal base m ≡ t

wider : (base : BaseView) (n t : ℕ) → HasOrdinal base n t → HasOrdinal base (suc n) t
wider base n t h = record { m = h.m; earlier = (let l = h.earlier in omega (arith, l)); shown = h.shown; ordinal_is = h.ordinal_is }

item_with : (base : BaseView) (n t : ℕ) → t < ordinal base n → HasOrdinal base n t
item_with base zero t l = absurd (omega (arith, l))
item_with base (suc n) t l = elim (cases_Bool (is_shown_at base n)) [
  | inl e ↦ elim (dec_lt t (ordinal base n)) [
    | yes a ↦ wider base n t (item_with base n t a)
    | no a ↦ record { m = n; earlier = omega arith; shown = e; ordinal_is = (let next = shown_step base n e in omega (arith, next, a, l)) }
  ]
  | inr e ↦ wider base n t (item_with base n t (let same = hidden_step base n e in omega (arith, same, l)))
]

-- ---- labels

-- a label is that of an item before another, or means nothing there
abbrev StandsOrNot : List ℕ → BaseView → ℕ → Type 0
StandsOrNot label view n = ((k : ℕ) × IsLabelOf view n k label) ⊎ (((k : ℕ) → IsLabelOf view n k label → ⊥) × Resolves view n label answers.Unknown)

module _ (base copy : BaseView) (i j : ℕ) (was : is_shown_at base i ≡ true) (is : is_shown_at copy j ≡ true) (level : ordinal base i ≡ ordinal copy j) where
  -- the label means the same at both
  abbrev IsSame : List ℕ → Type 0
  IsSame label = IsSameLabel (setting_at base i) (setting_at copy j) label

  both_mean : (label : List ℕ) (mine yours : answer.Resolved) → Resolves base i label mine → Resolves copy j label yours → AreSameMeaning (stands_for base mine) (stands_for copy yours) → IsSame label
  both_mean label mine yours h k s = (means_same base copy i j label mine yours true h k (λ m y. (λ e. s, λ p. refl))).0 refl

  -- that of a hypothesis, which is active at both or at neither
  ends_mean :
      (label : List ℕ) (k m : ℕ) (mine yours : Option ℕ) → IsLabelOf base i k label → IsLabelOf copy j m label → KeepsHypothesis base copy k m →
      EndsAt base k mine → EndsAt copy m yours → AreEndsAlike base copy mine yours → IsSame label
  ends_mean label k m None None h g kept ends stops e =
      both_mean label (answers.Hypothesis k) (answers.Hypothesis m) (ends.active label i h.carrier kept.was h.earlier tt)
      (stops.active label j g.carrier kept.is g.earlier tt) kept.same
  ends_mean label k m (Some a) (Some b) h g kept ends stops e = elim (dec_lt i a) [
    | yes l ↦ (let less = ordinal_less base i a was l in
        both_mean label (answers.Hypothesis k) (answers.Hypothesis m) (ends.active label i h.carrier kept.was h.earlier l)
        (stops.active label j g.carrier kept.is g.earlier (ordinal_back copy j b (omega (arith, less, e, level)))) kept.same)
    | no n ↦ both_mean label answers.Inactive answers.Inactive (ends.ended label i h.carrier kept.was h.earlier n)
        (stops.ended label j g.carrier kept.is g.earlier (λ l. n (ordinal_back base i a (let less = ordinal_less copy j b is l in omega (arith, less, e, level))))) tt
  ]
  ends_mean label k m _ _ h g kept ends stops e = absurd e

  kept_means : frame.AssertionsMean → (label : List ℕ) (k m : ℕ) → IsLabelOf base i k label → IsLabelOf copy j m label → ShareFrame base copy k m ⊎ KeepsHypothesis base copy k m → IsSame label
  kept_means assertions label k m h g (inl s) = both_mean label (answers.Assertion k) (answers.Assertion m) (assertions base i k label h s.was) (assertions copy j m label g s.is) s.same
  kept_means assertions label k m h g (inr s) = ends_mean label k m s.end.mine s.end.yours h g s s.end.was s.end.is s.end.alike

  -- every label that is not listed as changed
  pub in_step_labels :
      frame.HasItemOrIsUnknown → frame.AssertionsMean → (changed : List ℕ) → AreInStep base copy changed j → (label : List ℕ) → ¬ IsToldChanged copy changed j label → IsSame label
  in_step_labels item assertions changed step label unchanged = by_item (item base i label) (item copy j label)
    where
      by_told : (k m : ℕ) → IsLabelOf base i k label → IsLabelOf copy j m label → IsTold changed m ⊎ MeanOne base copy k m → IsSame label
      by_told k m h g (inl t) = absurd (unchanged (record { m = m; place = t.0; told = t.1; earlier = g.earlier; label_is = (let c = g.carrier in c.label_is) }))
      by_told k m h g (inr s) = kept_means assertions label k m h g s

      by_item : StandsOrNot label base i → StandsOrNot label copy j → IsSame label
      by_item (inl (k, h)) other =
          let c = h.carrier in
          let less = ordinal_less base k i c.shown h.earlier in
          let there = item_with copy j (ordinal base k) (omega (arith, less, level)) in
          let found = step there.m there.earlier there.shown in
          let both = found.1 in
          let same = one_ordinal base found.0 k both.one_label.was c.shown (both.ordinal_is ∙ there.ordinal_is) in
          let label_is = sym both.one_label.label ∙ ap (λ n. (said_at base n).label) same ∙ c.label_is in
          by_told k there.m h (record { earlier = there.earlier; carrier = record { shown = there.shown; label_is = label_is } })
          (subst (λ n. IsTold changed there.m ⊎ MeanOne base copy n there.m) same found.2)
      by_item (inr (none, unknown)) (inr (other, unknown_too)) = both_mean label answers.Unknown answers.Unknown unknown unknown_too tt
      by_item (inr (none, unknown)) (inl (m, g)) =
          let c = g.carrier in
          let found = step m g.earlier c.shown in
          let both = found.1 in
          let less = ordinal_less copy m j c.shown g.earlier in
          let at = both.ordinal_is in
          let earlier = ordinal_back base found.0 i (omega (arith, less, at, level)) in
          absurd (none found.0 (record { earlier = earlier; carrier = record { shown = both.one_label.was; label_is = both.one_label.label ∙ c.label_is } }))

-- ---- marks

-- if the mark says so, the frame is that of the old item that it names
pub frame_kept : (base copy : BaseView) (i j : ℕ) (mark : ItemMark) → IsMark base copy j mark → mark.old ≡ Some i → mark.frame ≡ true → ShareFrame base copy i j
frame_kept base copy i j mark is old told =
    let kept = is.frame_is.0 told in
    subst (λ (n : ℕ). ShareFrame base copy n j) (same_Some kept.i i (sym ((is.old_is kept.i).1 kept.one_label) ∙ old)) (record { was = kept.was; is = kept.is; same = kept.same })

-- one more item
in_step_more : (base copy : BaseView) (changed : List ℕ) (j : ℕ) → AreInStep base copy changed j → HasAlike base copy changed j → AreInStep base copy changed (j + 1)
in_step_more base copy changed j front here m l = elim (dec_lt m j) [
  | yes a ↦ front m a
  | no a ↦ (let z : j ≡ m = omega (arith, l, a) in subst (HasAlike base copy changed) z here)
]

-- an item that is level, and means the same as the old one with its label
alike_here : (base copy : BaseView) (changed : List ℕ) (j : ℕ) → HasLevel base copy j → ((i : ℕ) → HaveOneLabel base copy i j → MeanOne base copy i j) → HasAlike base copy changed j
alike_here base copy changed j level same shown = let found = level shown in let both = found.1 in (found.0, both, inr (same found.0 both.one_label))

-- one more item is listed as changed
got_end : (xs : List ℕ) (y : ℕ) → slice_get (xs ++ y ∷ []) (length xs) ≡ Some y
got_end xs y = slice_get-get_or (xs ++ y ∷ []) (length xs) 0 (omega (arith, length-append xs (y ∷ []))) ∙ ap Some (get_or_push xs y 0 (length xs) refl)

told_more : (base copy : BaseView) (changed : List ℕ) (j m : ℕ) → HasAlike base copy changed m → HasAlike base copy (changed ++ j ∷ []) m
told_more base copy changed j m here shown = search (rules, got_front) steps 500000

in_step_changed : (base copy : BaseView) (changed : List ℕ) (j : ℕ) → AreInStep base copy changed j → HasLevel base copy j → AreInStep base copy (changed ++ j ∷ []) (j + 1)
in_step_changed base copy changed j front level =
    in_step_more base copy (changed ++ j ∷ []) j (λ m l. told_more base copy changed j m (front m l))
    (λ shown. (let found = level shown in (found.0, found.1, inl (length changed, got_end changed j))))

-- what is in step after an item: one that is listed as changed, or one that means the same
pub in_step_behind :
    (base copy : BaseView) (changed : List ℕ) (j : ℕ) (here placed alike next : Bool) → (here ≡ true → placed ≡ true) → (next ≡ true → (here ≡ true) ⊎ ((placed ≡ true) × (alike ≡ true))) →
    (placed ≡ true → AreInStep base copy changed j × HasLevel base copy j) → (alike ≡ true → (i : ℕ) → HaveOneLabel base copy i j → MeanOne base copy i j) → next ≡ true →
    AreInStep base copy (changed_behind changed j here) (j + 1)
in_step_behind base copy changed j true placed alike next told by at same t = let front = at (told refl) in in_step_changed base copy changed j front.0 front.1
in_step_behind base copy changed j false placed alike next told by at same t = elim (by t) [
  | inl e ↦ absurd (false≢true e)
  | inr e ↦ (let front = at e.0 in in_step_more base copy changed j front.0 (alike_here base copy changed j front.1 (same e.1)))
]

-- a mark that is known to be in step
pub stepped :
    (base copy : BaseView) (j : ℕ) (old : Option ℕ) (frame pairs told in_step : Bool) → IsMark base copy j (record { old = old; frame = frame; pairs = pairs; in_step = told }) →
    IsMark base copy j (record { old = old; frame = frame; pairs = pairs; in_step = in_step })
stepped base copy j old frame pairs told in_step is = record { old_is = is.old_is; frame_is = is.frame_is; pairs_is = is.pairs_is }

-- the mark of an item says that every label means the same
marked_within : (marks : List ItemMark) (j i : ℕ) → (slice_index_or marks j no_mark).old ≡ Some i → j < length marks
marked_within [] j i e = absurd (none-some i e)
marked_within (m ∷ marks) zero i e = omega arith
marked_within (m ∷ marks) (suc j) i e = let l = marked_within marks j i e in omega (arith, l)

pub in_step_kept :
    (base copy : BaseView) (marks : MarksView) → AreMarks base copy marks → (i j : ℕ) → (mark_at marks j).old ≡ Some i → (mark_at marks j).in_step ≡ true → (label : List ℕ) →
    ¬ IsToldChanged copy marks.changed j label → IsSameLabel (setting_at base i) (setting_at copy j) label
in_step_kept base copy marks are i j old told =
    let within : j < length copy = omega (arith, (marked_within marks.items j i old), are.count) in
    grind (arith, common_steps, marked_within marks.items j i old, are.each j within, are.in_step j within told i (((are.each j (omega (arith, (marked_within marks.items j i old), are.count))).old_is i).0 old)) steps 200000

-- ---- what the code keeps

-- an item has a label exactly when it is reported to have an expression
pub told_shown : {X Y : Type 0} (f : X → Y) (o : Option X) (b : Bool) (e : Y) → option_map f o ≡ cond b (Some e) None → is_some o ≡ b
told_shown f None true e q = absurd (none-some e q)
told_shown f (Some x) false e q = absurd (none-some (f x) (sym q))
told_shown f _ _ e q = refl

pub ordinals_more : (base : BaseView) (n : ℕ) (xs : List ℕ) (x : ℕ) → AreOrdinals base n xs → x ≡ ordinal base n → AreOrdinals base (n + 1) (xs ++ x ∷ [])
ordinals_more base n xs x are e = grind (arith, get_or_push xs x 0 n, get_or_append_left xs (x ∷ []) 0, dec_lt, length-append) steps 200000

pub ordinal_shown : (base : BaseView) (n : ℕ) → is_shown_at base n ≡ true → ordinal base n + 1 ≡ ordinal base (n + 1)
ordinal_shown base n e = let z : suc n ≡ n + 1 = omega arith in let here = shown_step base n e in subst (λ k. ordinal base n + 1 ≡ ordinal base k) z (omega (arith, here))

pub ordinal_hidden : (base : BaseView) (n : ℕ) → is_shown_at base n ≡ false → ordinal base n ≡ ordinal base (n + 1)
ordinal_hidden base n e = let z : suc n ≡ n + 1 = omega arith in subst (λ k. ordinal base n ≡ ordinal base k) z (sym (hidden_step base n e))

-- items of one ordinal
pub same_level :
    (base copy : BaseView) (mine yours : List ℕ) (i j : ℕ) → AreOrdinals base (suc (length base)) mine → AreOrdinals copy (suc (length copy)) yours →
    (i < length mine) × (j < length yours) × (slice_index mine i ≡ slice_index yours j) → ordinal base i ≡ ordinal copy j
same_level base copy mine yours i j a b (l, m, e) = grind (arith, a.each, b.each) steps 200000
