-- A label that means an assertion at an item is the label of one that comes before the item.
use Rattle.std.proofs.lemmas.{Grind.{common_steps}, Slice.Eq.{bytes_eq-Decides}, Bool.{cases_Bool, false≢true, and_from}, List.{take-append-le, take_all}, Option.{slice_get_within}}
use Rattle.std.proofs.Common.{◌≡◌, ◌<◌, ◌≤◌, ℕ, zero, suc, cond, Bool, true, bytes_eq, option_to_list, Option, Some, None, List, [], ◌∷◌, ◌++◌, length, take, slice_get, refl, sym, ◌∙◌, ap, subst, inl}
use Rattle.std.proofs.{Common.{inr, arith, is_none, append-nil, append_assoc, length-append}, Math.{Decide.{dec_lt}, Seq.{take-suc, take-length}}}
use Rattle.mm_frame.specs.{declared.FrameNumber.{FrameNumber}, Language.{Base.{BaseView, said_at, before, is_sound_at, fault_by}, Framing.{frame, meaning, resolve, resolve_from}, Laws.{KeptNext}}}
use Rattle.mm_frame.specs.Language.{Resolving.{Resolves}, Scope.{stays}, Sound.{fault, judged, sound_items}}
use Rattle.mm_frame.specs.mm_statement.Language.Item.{Kind, Said, passed, is_assertion, is_labelled, labels_of, has}
use Rattle.mm_machine.specs.Language.Frame.{Assertion}
use Rattle.mm_verdict.{specs.Language.Citing.{means_assertion}, proofs.lemmas.lists.Members.{before_or_last}}
use Rattle.mm_frame.specs.declared.base.Resolved.TheVariants as answers

labelled : (b : Bool) (o : Option (List ℕ)) (label : List ℕ) → has (cond b (option_to_list o) []) label ≡ true → (b ≡ true) × (o ≡ Some label)
labelled true (Some l) label h = grind (arith, common_steps, cases_Bool (bytes_eq label l), bytes_eq-Decides label l, false≢true) steps 200000
labelled _ _ label h = absurd (false≢true h)

sound_label : (kind : Kind) → is_labelled kind ≡ true → is_none (fault_by kind None) ≡ true
sound_label kind e = grind (arith, common_steps) steps 200000

take_end : {X : Type 0} (xs : List X) (n : ℕ) → (n < length xs → ⊥) → take (suc n) xs ≡ take n xs
take_end xs n h = take_all (suc n) xs (omega (arith, h)) ∙ sym (take_all n xs (omega (arith, h)))

pub longer_by_one : {X : Type 0} (xs : List X) (x : X) → length (xs ++ x ∷ []) ≡ suc (length xs)
longer_by_one xs x = omega (arith, length-append xs (x ∷ []))

module _ (view : BaseView) (next : KeptNext) where
  -- item n, judged
  abbrev judged_at : ℕ → Said
  judged_at n = judged (said_at view n) (fault (before view n) (said_at view n))

  one_more : (i : ℕ) → i < length view → before view (suc i) ≡ before view i ++ judged_at i ∷ []
  one_more i l = ap sound_items (take-suc view i passed l) ∙ next (take i view) (said_at view i)

  no_more : (i : ℕ) → (i < length view → ⊥) → before view (suc i) ≡ before view i
  no_more i m = ap sound_items (take_end view i m)

  count_before : (i : ℕ) → i ≤ length view → length (before view i) ≡ i
  count_before zero l = refl
  count_before (suc i) l = ap length (one_more i (omega (arith, l))) ∙ longer_by_one (before view i) (judged_at i) ∙ ap suc (count_before i (omega (arith, l)))

  -- what is at place n before item i
  record Stood (i n : ℕ) (item : Said) : Type 0 where
    earlier : n < i
    is : item ≡ judged_at n
    front : take n (before view i) ≡ before view n

  stood_next :
      (i n : ℕ) (item : Said) → (slice_get (before view i) n ≡ Some item → Stood i n item) → slice_get (before view (suc i)) n ≡ Some item →
      Dec (i < length view) → Stood (suc i) n item
  stood_next i n item less e (yes l) =
      let count = count_before i (omega (arith, l)) in
      elim (before_or_last (before view i) (judged_at i) item n (ap (λ items. slice_get items n) (sym (one_more i l)) ∙ e)) [
        | inl h ↦
            let s = less h in
            let few = slice_get_within (before view i) n item h in
            let m = s.earlier in
            record {
              earlier = omega (arith, m);
              is = s.is;
              front = ap (take n) (one_more i l) ∙ take-append-le n (before view i) (judged_at i ∷ []) (omega (arith, few)) ∙ s.front;
            }
        | inr h ↦
            let last : n ≡ i = h.0 ∙ count in
            let whole = take-append-le (length (before view i)) (before view i) (judged_at i ∷ []) (omega arith) ∙ take-length (before view i) in
            let same = ap (λ m. take m (before view i ++ judged_at i ∷ [])) h.0 ∙ whole ∙ ap (before view) (sym last) in
            record { earlier = omega (arith, last); is = sym h.1 ∙ ap judged_at (sym last); front = ap (take n) (one_more i l) ∙ same }
      ]
  stood_next i n item less e (no m) =
      let s = less (ap (λ items. slice_get items n) (sym (no_more i m)) ∙ e) in
      let k = s.earlier in
      record { earlier = omega (arith, k); is = s.is; front = ap (take n) (no_more i m) ∙ s.front }

  stood : (i n : ℕ) (item : Said) → slice_get (before view i) n ≡ Some item → Stood i n item
  stood zero n item e = cc
  stood (suc i) n item e = stood_next i n item (stood i n item) e (dec_lt i (length view))

-- the item that a label means, if it means an assertion
record Found (whole front back : List Said) (label : List ℕ) : Type 0 where
  place : ℕ
  item : Said
  there : slice_get back place ≡ Some item
  label_is : has (labels_of item) label ≡ true
  framed : is_assertion item.kind ≡ true
  means : resolve_from whole front back label ≡ Assertion (frame (front ++ take place back) item)

meaning_framed : (whole front back : List Said) (item : Said) → means_assertion (meaning whole front item back) ≡ true → (is_assertion item.kind ≡ true) × (meaning whole front item back ≡ Assertion (frame front item))
meaning_framed whole front back item h = grind (arith, common_steps, cases_Bool (is_assertion item.kind), cases_Bool (stays back), false≢true) steps 200000

found : (whole front back : List Said) (label : List ℕ) → means_assertion (resolve_from whole front back label) ≡ true → Found whole front back label
found whole front [] label h = absurd (false≢true h)
found whole front (item ∷ back) label h = elim (cases_Bool (has (labels_of item) label)) [
  | inl e ↦
      let m = meaning_framed whole front back item (rw e at h) in
      record { place = 0; item = item; there = refl; label_is = e; framed = m.0; means = rw e (m.1 ∙ ap (λ items. Assertion (frame items item)) (sym (append-nil front))) }
  | inr e ↦
      let f = found whole (front ++ item ∷ []) back label (rw e at h) in
      record {
        place = suc f.place;
        item = f.item;
        there = f.there;
        label_is = f.label_is;
        framed = f.framed;
        means = rw e (f.means ∙ ap (λ items. Assertion (frame items f.item)) (append_assoc front (item ∷ []) (take f.place back)));
      }
]

-- a sound item, known by what takes its place
judged_sound : (item : Said) (label : List ℕ) (o : Option (ℕ × FrameNumber)) → has (labels_of (judged item o)) label ≡ true → o ≡ None
judged_sound item label o h = grind (arith, common_steps) steps 200000

pub assertion_stands : KeptNext → (view : BaseView) (i : ℕ) (label : List ℕ) → means_assertion (resolve (before view i) label) ≡ true → (k : ℕ) × Resolves view i label (answers.Assertion k)
assertion_stands next view i label h =
    let f = found (before view i) [] (before view i) label h in
    let k = f.place in
    let s = stood view next i k f.item f.there in
    let said = said_at view k in
    let none = judged_sound said label (fault (before view k) said) (subst (λ (item : Said). has (labels_of item) label ≡ true) s.is f.label_is) in
    let same : f.item ≡ said = s.is ∙ ap (judged said) none in
    let l = labelled (is_labelled said.kind) said.label label (subst (λ (item : Said). has (labels_of item) label ≡ true) same f.label_is) in
    let sound : is_sound_at view k ≡ true = ap (λ o. is_none (fault_by said.kind o)) none ∙ sound_label said.kind l.0 in
    let framed = (and_from (is_sound_at view k) (is_assertion (said_at view k).kind) sound (subst (λ (item : Said). is_assertion item.kind ≡ true) same f.framed)) in
    let shown = and_from (is_sound_at view k) (is_labelled said.kind) sound l.0 in
    (k, (record { earlier = s.earlier; carrier = record { shown = shown; label_is = l.1 } }, framed, f.means ∙ ap (λ items. Assertion (frame items f.item)) s.front ∙ ap (λ item. Assertion (frame (before view k) item)) same))
