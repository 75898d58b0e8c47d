-- What labels mean at two theorems of two bases.
use Rattle.std.proofs.lemmas.{Grind.{common_steps}, Bool.{cases_Bool, false≢true, and_from}, Slice.Eq.{bytes_eq-Decides}, Option.{none-some, same_Some}, List.{take_all}}
use Rattle.std.proofs.Common.{◌≡◌, ◌<◌, ℕ, zero, suc, cond, Bool, true, false, Option, Some, None, List, [], ◌∷◌, ◌++◌, length, take, refl, sym, ◌∙◌, ap, subst, arith, ◌↔◌, IsTrue, is_none}
use Rattle.std.{proofs.{Common.{option_to_list, bytes_eq}, Math.{Decide.{dec_lt}, Seq.{take-suc}}}, specs.List.{AllByRecursion}}
use Rattle.mm_frame.specs.{declared.FrameNumber.{FrameNumber}, Language.{Base.{BaseView, said_at, before, is_shown_at, is_framed_at, frame_at, fault_by}, Framing.{resolve, resolve_from}}}
use Rattle.mm_frame.specs.{Language.{Resolving.{IsCarrier, IsMeaning, Resolves}, Sound.{fault, judged, sound_items}}, mm_machine.Language.Frame.{LabelMeaning, Assertion, Unknown, AreSameFrame}}
use Rattle.mm_frame.specs.mm_statement.Language.Item.{Kind, Said, passed, is_labelled, labels_of, has}
use Rattle.mm_proof.specs.{Code.KeptMarks.{AreTheorems, IsOneCarrier, IsShownItem, ShareHypotheses, SharePairs, stands_for}, Language.BaseMarks.{MarksView, AreMarks, mark_at}}
use Rattle.mm_proof.proofs.{TheoremLemmas.{shown_proof}, KeptMarkLemmas.{shown_within, one_label}}
use Rattle.mm_verdict.specs.{Language.{BaseLabels.{setting_at}, SameToDecode.{IsSameLabel}}, mm_machine.Language.SameProof.{AreSameMeaning}}
use Rattle.mm_frame.specs.declared.base.Resolved as answer
use Rattle.mm_frame.specs.declared.base.Resolved.TheVariants as answers
use Rattle.mm_frame.specs.Language.Laws as frame

-- ---- a label that no item carries

labelled : (b : Bool) (o : Option (List ℕ)) (label : List ℕ) → has (cond b (option_to_list o) []) label ≡ true → (b ≡ true) × (o ≡ Some label)
labelled true (Some l) label h = grind (arith, common_steps, cases_Bool (bytes_eq label l), bytes_eq-Decides label l, false≢true) steps 200000
labelled _ _ label h = absurd (false≢true h)

sound_label : (kind : Kind) → is_labelled kind ≡ true → is_none (fault_by kind None) ≡ true
sound_label kind e = grind (arith, common_steps) steps 200000

joined : {X : Type 0} (P : X → Type 0) (xs ys : List X) → AllByRecursion P xs → AllByRecursion P ys → AllByRecursion P (xs ++ ys)
joined P [] ys a b = b
joined P (x ∷ xs) ys a b = (a.0, joined P xs ys a.1 b)

take_end : {X : Type 0} (xs : List X) (n : ℕ) → (n < length xs → ⊥) → take (suc n) xs ≡ take n xs
take_end xs n h = take_all (suc n) xs (omega (arith, h)) ∙ sym (take_all n xs (omega (arith, h)))

module _ (view : BaseView) (label : List ℕ) (none : IsOneCarrier view label None) where
  -- the item does not carry the label
  abbrev Lacks : Said → Type 0
  Lacks item = has (labels_of item) label ≡ false

  judged_lacks : (n : ℕ) (found : Option (ℕ × FrameNumber)) → fault (before view n) (said_at view n) ≡ found → Lacks (judged (said_at view n) found)
  judged_lacks n (Some at) e = refl
  judged_lacks n None e = grind (arith, common_steps, and_from, labelled, none-some, sound_label) steps 200000

  all_lack : frame.KeptNext → (n : ℕ) → AllByRecursion Lacks (before view n)
  all_lack next zero = tt
  all_lack next (suc n) =
      let item = said_at view n in
      let here = joined Lacks (before view n) (judged item (fault (before view n) item) ∷ []) (all_lack next n)
      (judged_lacks n (fault (before view n) item) refl, tt) in
      elim (dec_lt n (length view)) [
        | yes l ↦ subst (λ items. AllByRecursion Lacks items) (sym (ap sound_items (take-suc view n passed l) ∙ next (take n view) item)) here
        | no m ↦ subst (λ items. AllByRecursion Lacks items) (sym (ap sound_items (take_end view n m))) (all_lack next n)
      ]

  unknown_from : (whole front back : List Said) → AllByRecursion Lacks back → resolve_from whole front back label ≡ Unknown
  unknown_from whole front [] a = refl
  unknown_from whole front (item ∷ back) a = rw a.0 (unknown_from whole (front ++ item ∷ []) back a.1)

  pub none_means : frame.KeptNext → (i : ℕ) → resolve (before view i) label ≡ Unknown
  none_means next i = unknown_from (before view i) [] (before view i) (all_lack next i)

-- ---- what two answers mean

means : (base : BaseView) (i : ℕ) (label : List ℕ) (told : answer.Resolved) (m : LabelMeaning) → IsMeaning base i label told m → (m ≡ stands_for base told) × IsShownItem base told
means base i label told m h = grind (arith, common_steps) steps 200000

moved : (same : Bool) (m n y z : LabelMeaning) → m ≡ n → y ≡ z → IsTrue same ↔ AreSameMeaning n z → IsTrue same ↔ AreSameMeaning m y
moved same m n y z e f s = subst (λ w. IsTrue same ↔ AreSameMeaning w y) (sym e) (subst (λ w. IsTrue same ↔ AreSameMeaning n w) (sym f) s)

-- the label means the same exactly when its two answers stand for the same
pub means_same :
    (base copy : BaseView) (i j : ℕ) (label : List ℕ) (mine yours : answer.Resolved) (same : Bool) → Resolves base i label mine → Resolves copy j label yours →
    (IsShownItem base mine → IsShownItem copy yours → IsTrue same ↔ AreSameMeaning (stands_for base mine) (stands_for copy yours)) → IsTrue same ↔ IsSameLabel (setting_at base i) (setting_at copy j) label
means_same base copy i j label mine yours same h k t = grind (arith, common_steps, means, moved) steps 200000

-- ---- by marks

-- the label of an assertion means the same if its mark says that the frame is kept, and both are earlier
pub kept_means :
    frame.AssertionsMean → (base copy : BaseView) (marks : MarksView) → AreMarks base copy marks → (i j : ℕ) (label : List ℕ) (m k : ℕ) → IsCarrier copy label m →
    (mark_at marks m).frame ≡ true → m < j → (mark_at marks m).old ≡ Some k → k < i → IsSameLabel (setting_at base i) (setting_at copy j) label
kept_means assertions base copy marks are i j label m k carrier told later old earlier =
    let within = shown_within copy m carrier.shown in
    let is = are.each m within in
    let kept = is.frame_is.0 told in
    let same : k ≡ kept.i = sym (same_Some kept.i k (sym ((is.old_is kept.i).1 kept.one_label) ∙ old)) in
    let was : IsCarrier base label kept.i = record { shown = kept.one_label.was; label_is = kept.one_label.label ∙ carrier.label_is } in
    let mine = assertions base i kept.i label (record { earlier = subst (λ n. n < i) same earlier; carrier = was }) kept.was in
    let yours = assertions copy j m label (record { earlier = later; carrier = carrier }) kept.is in
    (means_same base copy i j label (answers.Assertion kept.i) (answers.Assertion m) true mine yours (λ a b. (λ t. kept.same, λ s. refl))).0 refl

-- the label of an assertion means the same if its mark says that the frame is kept
pub frames_marked :
    frame.HasOwnLabels → (base copy : BaseView) (marks : MarksView) → AreMarks base copy marks → (i j : ℕ) (label : List ℕ) (m a b : ℕ) (same : Bool) → IsCarrier copy label m →
    Resolves base i label (answers.Assertion a) → Resolves copy j label (answers.Assertion b) → same ≡ (mark_at marks m).frame →
    IsTrue same ↔ IsSameLabel (setting_at base i) (setting_at copy j) label
frames_marked own base copy marks are i j label m a b same carrier h k told =
    let which : b ≡ m = own copy b m label k.0.carrier carrier in
    let is = are.each m (shown_within copy m carrier.shown) in
    moved same (resolve (before base i) label) (Assertion (frame_at base a)) (resolve (before copy j) label) (Assertion (frame_at copy b)) h.2 k.2 (
      λ e. (
          let kept = is.frame_is.0 (sym told ∙ e) in
          let old : kept.i ≡ a = own base kept.i a label (record { shown = kept.one_label.was; label_is = kept.one_label.label ∙ carrier.label_is }) h.0.carrier in
          subst (λ (n : ℕ). AreSameFrame (frame_at base a) (frame_at copy n)) (sym which) (subst (λ (n : ℕ). AreSameFrame (frame_at base n) (frame_at copy m)) old kept.same)),
      λ s. told ∙ is.frame_is.1 (record {
        i = a;
        one_label = (one_label base copy a m label carrier.shown carrier.label_is).0 h.0.carrier;
        was = h.1;
        is = subst (λ (n : ℕ). is_framed_at copy n ≡ true) which k.1;
        same = subst (λ (n : ℕ). AreSameFrame (frame_at base a) (frame_at copy n)) which s;
      }),
    )

-- the item of the old base that a mark names carries the label
pub old_carries :
    (base copy : BaseView) (marks : MarksView) → AreMarks base copy marks → (label : List ℕ) (m : ℕ) → IsCarrier copy label m → (n : ℕ) →
    ((mark_at marks m).old ≡ Some n) ↔ IsCarrier base label n
old_carries base copy marks are label m carrier n =
    let is = (are.each m (shown_within copy m carrier.shown)).old_is n in
    let one = one_label base copy n m label carrier.shown carrier.label_is in
    (λ e. one.1 (is.0 e), λ c. is.1 (one.0 c))

-- if the mark says that the frame is the same, both are assertions
pub old_framed :
    (base copy : BaseView) (marks : MarksView) → AreMarks base copy marks → (m : ℕ) → is_shown_at copy m ≡ true → (mark_at marks m).frame ≡ true → (n : ℕ) →
    (mark_at marks m).old ≡ Some n → is_framed_at base n ≡ true
old_framed base copy marks are m shown told n old =
    let is = are.each m (shown_within copy m shown) in
    let kept = is.frame_is.0 told in
    subst (λ (k : ℕ). is_framed_at base k ≡ true) (same_Some kept.i n (sym ((is.old_is kept.i).1 kept.one_label) ∙ old)) kept.was

pub new_framed :
    (base copy : BaseView) (marks : MarksView) → AreMarks base copy marks → (m : ℕ) → is_shown_at copy m ≡ true → (mark_at marks m).frame ≡ true → (n : ℕ) → Some m ≡ Some n → is_framed_at copy n ≡ true
new_framed base copy marks are m shown told n e = subst (λ (k : ℕ). is_framed_at copy k ≡ true) (same_Some m n e) ((are.each m (shown_within copy m shown)).frame_is.0 told).is

-- the active pairs are the same if the mark of this item of the old base says so
pub pairs_marked :
    (base copy : BaseView) (marks : MarksView) → AreMarks base copy marks → (i j : ℕ) (same : Bool) → AreTheorems base copy i j → (mark_at marks j).old ≡ Some i →
    same ≡ (mark_at marks j).pairs → IsTrue same ↔ SharePairs base copy i j
pairs_marked base copy marks are i j same these old told =
    let is = are.each j (shown_within copy j (shown_proof copy j these.is)) in (
      λ e. (
          let kept = is.pairs_is.0 (sym told ∙ e) in
          subst (λ (n : ℕ). SharePairs base copy n j) (same_Some kept.i i (sym ((is.old_is kept.i).1 kept.one_label) ∙ old)) kept.same),
      λ s. told ∙ is.pairs_is.1 (record { i = i; one_label = (is.old_is i).0 old; was = these.was; is = these.is; same = s }),
    )

-- the mandatory hypotheses are the same if the mark of this item of the old base says so
pub hypotheses_marked :
    (base copy : BaseView) (marks : MarksView) → AreMarks base copy marks → (i j : ℕ) → AreTheorems base copy i j → (mark_at marks j).old ≡ Some i → (mark_at marks j).frame ≡ true →
    ShareHypotheses base copy i j
hypotheses_marked base copy marks are i j these old told =
    let is = are.each j (shown_within copy j (shown_proof copy j these.is)) in
    let kept = is.frame_is.0 told in
    let same = subst (λ (n : ℕ). AreSameFrame (frame_at base n) (frame_at copy j)) (same_Some kept.i i (sym ((is.old_is kept.i).1 kept.one_label) ∙ old)) kept.same in
    record { expression = same.expression; hypotheses = same.hypotheses }
