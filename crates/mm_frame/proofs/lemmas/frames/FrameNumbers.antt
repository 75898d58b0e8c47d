-- What is kept of an item at its number, and the hypotheses of a frame by their numbers.
use Rattle.std.proofs.lemmas.{Option.{slice_get_within, get_or_from_slice_get, slice_get_cases, slice_get-get_or}, Grind.{common_steps}, Bool.{and_from, and_parts}, List.{take-take}}
use Rattle.std.proofs.lemmas.List.Elements.{All-from_get_or}
use Rattle.std.proofs.Common.{◌≡◌, ◌↔◌, ℕ, zero, suc, ◌<◌, Bool, true, false, ◌&&◌, ◌||◌, Option, Some, None, List, [], ◌∷◌, length, take, take_all, slice_get, get_or, is_none, is_some, refl, sym}
use Rattle.std.{proofs.Common.{◌∙◌, ap, subst, arith, inl, inr}, specs.{Option.{option_map, IfSome}, Prelude.{Contains}, List.{AllZip}}}
use Rattle.mm_frame.proofs.lemmas.lists.Members.{get_taken, front_get, get_between, In, in_contains, contains_in}
use Rattle.mm_frame.proofs.lemmas.{base.BaseLemmas.{item_there, kept_item_at, none_told, kept_count, kept_at, kept_front_at, kept_are_sound}, frames.Frames.{in_at}}
use Rattle.mm_frame.proofs.lemmas.{frames.HypothesisNumbers.{to_active_number, from_active_number, active_numbers_rise, hypotheses_by_numbers}, scope.SoundItems.{map_same}}
use Rattle.mm_frame.{proofs.lemmas.pairs.ActivePairLemmas.{expression_at_number}, specs.{declared.FrameNumber.{FrameNumber}, Language.Sound.{fault, judged, sound_items}}}
use Rattle.mm_frame.specs.Language.Framing.{is_mandatory, mandatory_variables, hypothesis, mandatory_numbers}
use Rattle.mm_frame.specs.Language.{Base.{BaseView, before, said_at, fault_by, hypothesis_at, is_sound_at, is_shown_at, is_framed_at, IsMandatoryAt, AreHypotheses}, Answering.{numbers_if}}
use Rattle.mm_frame.specs.Code.KeptBase.{hypotheses_at}
use Rattle.mm_store.specs.Language.FilesView.{FilesView}
use Rattle.mm_statement.specs.Language.{Item.{Kind, Said, passed, is_kind, Essential, Floating, is_labelled, has, variable_of, item_at}, Statement.{kind_of, Says}}
use Rattle.mm_store.specs.declared.item.Item as store

-- the front of what is kept is what is kept of the front
pub kept_front : (said : List Said) (i : ℕ) → take i (sound_items said) ≡ sound_items (take i said)
kept_front said i = elim (slice_get_cases said i).1 [
  | inl there ↦ kept_front_at said i there.0 there.2
  | inr past ↦ (let c = kept_count said in let p = past.0 in take_all i (sound_items said) (omega arith) ∙ ap sound_items (sym (take_all i said p)))
]

-- an item that is judged and still has a label has no fault
judged_labelled : (item : Said) (found : Option (ℕ × FrameNumber)) (x : Said) → x ≡ judged item found → is_labelled x.kind ≡ true → (x ≡ item) × (found ≡ None)
judged_labelled item found x e t = grind (arith, common_steps) steps 200000

labelled_told : (kind : Kind) → is_labelled kind ≡ true → fault_by kind None ≡ None
labelled_told kind t = grind (arith, common_steps) steps 200000

-- what is kept and may have a label is what is said there, and is sound
pub shown_kept : (base : BaseView) (n : ℕ) (x : Said) → slice_get (sound_items base) n ≡ Some x → is_labelled x.kind ≡ true → (x ≡ said_at base n) × (is_shown_at base n ≡ true)
shown_kept base n x e t =
    let item = said_at base n in
    let j =
    judged_labelled item (fault (before base n) item) x
    (let w = slice_get_within (sound_items base) n x e in let c = kept_count base in let item = item_at base n in
    let k = kept_at base n item (slice_get-get_or base n passed (omega arith)) in
    let one = judged item (fault (sound_items (take n base)) item) in
    let here : slice_get (sound_items base) n ≡ Some one = ap (λ m. slice_get (sound_items base) m) (sym k.number)
    ∙ ap (λ v. slice_get v (length (sound_items (take n base)))) k.whole ∙ get_between (sound_items (take n base)) one k.rest in cc) t in
    let u = sym (ap (λ (w : Said). is_labelled w.kind) j.0) ∙ t in
    (j.0, and_from (is_none (fault_by item.kind (fault (before base n) item))) (is_labelled item.kind) (ap (λ f. is_none (fault_by item.kind f)) j.1 ∙ ap is_none (labelled_told item.kind u)) u)

-- a mandatory hypothesis may have a label
hypothesis_labelled : (kind : Kind) (b : Bool) → (is_kind Essential kind || (is_kind Floating kind && b)) ≡ true → is_labelled kind ≡ true
hypothesis_labelled kind b t = grind (arith, common_steps) steps 200000

-- a mandatory hypothesis comes before the statement, is sound, and is read there as at its own place
record IsHypothesisAt (base : BaseView) (i n : ℕ) : Type 0 where
  earlier : n < i
  shown : is_shown_at base n ≡ true
  same : hypothesis_at base n ≡ hypothesis (before base i) (item_at (before base i) n)

mandatory_at : (base : BaseView) (i n : ℕ) → In n (mandatory_numbers (before base i) (said_at base i)) → IsHypothesisAt base i n
mandatory_at base i n k =
    let front = before base i in
    let mandatory = mandatory_variables front (said_at base i) in
    let r = from_active_number (is_mandatory mandatory) front n k in
    let x = r.0 in
    let g = get_taken (sound_items base) i n x (subst (λ w. slice_get w n ≡ Some x) (sym (kept_front base i)) r.1) in
    let t = hypothesis_labelled x.kind (has mandatory (variable_of x)) r.3 in
    let s = shown_kept base n x g.1 t in
    let there = get_or_from_slice_get front n x passed r.1 in
    let place : take n front ≡ before base n = ap (take n) (sym (kept_front base i)) ∙ take-take n i (sound_items base) (omega arith) ∙ kept_front base n in
    grind (arith, common_steps, expression_at_number front (kept_are_sound (take i base)) n x r.1 r.2 t, kept_are_sound (take i base)) steps 200000

-- a sound item with a label is in the sound items
pub shown_there : (base : BaseView) (j : ℕ) → is_shown_at base j ≡ true → slice_get (sound_items base) j ≡ Some (said_at base j)
shown_there base j s =
    let p = and_parts (is_sound_at base j) (is_labelled (said_at base j).kind) s in
    kept_item_at base j (said_at base j) (item_there is_labelled refl base j p.1)
    (none_told (said_at base j).kind (fault (before base j) (said_at base j)) p.0)

-- it is among the items before a later one
pub shown_before : (base : BaseView) (i j : ℕ) → j < i → is_shown_at base j ≡ true → slice_get (before base i) j ≡ Some (said_at base j)
shown_before base i j l s = subst (λ w. slice_get w j ≡ Some (said_at base j)) (kept_front base i) (front_get (sound_items base) i j (said_at base j) l (shown_there base j s))

-- the mandatory hypotheses are those with these numbers
which_are : (base : BaseView) (i n : ℕ) → Contains (mandatory_numbers (before base i) (said_at base i)) n ↔ IsMandatoryAt base i n
which_are base i n =
    let front = before base i in
    let mandatory = mandatory_variables front (said_at base i) in
    let numbers = mandatory_numbers front (said_at base i) in (
      λ c.
          let k = contains_in n numbers c in
          let m = mandatory_at base i n k in
          let r = from_active_number (is_mandatory mandatory) front n k in
          let e : Some r.0 ≡ Some (said_at base n) = sym r.1 ∙ shown_before base i n m.earlier m.shown in
          let same : r.0 ≡ said_at base n = cc in
          record { earlier = m.earlier; shown = m.shown; active = r.2; mandatory = subst (λ (x : Said). is_mandatory mandatory x ≡ true) same r.3 },
      λ m. in_contains n numbers (to_active_number (is_mandatory mandatory) front n (said_at base n) (shown_before base i n m.earlier m.shown) m.active m.mandatory),
    )

-- the mandatory hypotheses by their numbers
pub mandatory_are : (base : BaseView) (i : ℕ) → AreHypotheses base i (mandatory_numbers (before base i) (said_at base i))
mandatory_are base i =
    let front = before base i in
    let item = said_at base i in
    let numbers = mandatory_numbers front item in
    record {
      which = which_are base i;
      rise = active_numbers_rise (is_mandatory (mandatory_variables front item)) front;
      each = All-from_get_or (λ n. (n < i) × (is_shown_at base n ≡ true)) numbers 0 (λ k l. let m = mandatory_at base i (get_or numbers k 0) (in_at numbers k 0 l) in (m.earlier, m.shown));
      are = map_same (hypothesis_at base) (λ n. hypothesis front (item_at front n)) numbers (λ n k. (mandatory_at base i n k).same) ∙ sym (hypotheses_by_numbers front item);
    }

numbers_told : (framed : Bool) (front : List Said) (item : Said) (numbers : List ℕ) → numbers_if framed front item ≡ Some numbers → mandatory_numbers front item ≡ numbers
numbers_told true front item numbers e = cc
numbers_told false front item numbers e = cc

-- the numbers that are reported for an assertion are those of its mandatory hypotheses
pub frame_numbers : (base : BaseView) (i : ℕ) (numbers : List ℕ) → hypotheses_at base i ≡ Some numbers → AreHypotheses base i numbers
frame_numbers base i numbers e = subst (AreHypotheses base i) (numbers_told _ (before base i) (said_at base i) numbers e) (mandatory_are base i)

-- the same of what is kept, if there is something
pub frame_means : {X : Type 0} (told : X → List ℕ) (base : BaseView) (i : ℕ) (found : Option X) → option_map told found ≡ hypotheses_at base i → IfSome found (λ x. AreHypotheses base i (told x))
frame_means told base i found e = grind (arith, common_steps, frame_numbers) steps 200000

-- what is kept, if there is something
pub frame_is : {X : Type 0} (told : X → List ℕ) (base : BaseView) (i : ℕ) (found : Option X) → option_map told found ≡ hypotheses_at base i →
    IfSome found (λ x. told x ≡ mandatory_numbers (before base i) (said_at base i))
frame_is told base i found e = grind (arith, common_steps) steps 200000

-- a frame is reported exactly for an assertion
told_some : {X : Type 0} (told : X → List ℕ) (found : Option X) (framed : Bool) (front : List Said) (item : Said) → option_map told found ≡ numbers_if framed front item → is_some found ≡ framed
told_some told None false front item e = refl
told_some told (Some x) true front item e = refl
told_some told _ _ front item e = cc

pub framed_some : {X : Type 0} (told : X → List ℕ) (found : Option X) (base : BaseView) (j : ℕ) → option_map told found ≡ hypotheses_at base j → is_some found ≡ is_framed_at base j
framed_some told found base j e = told_some told found (is_framed_at base j) (before base j) (said_at base j) e

-- an item of the files is of the kind of what it says
abbrev pub HasKind : store.Item → Said → Type 0
HasKind item said = kind_of item.kind ≡ said.kind

pub kinds_said : (files : FilesView) (found : List store.Item) (said : List Said) → AllZip (Says files) found said → AllZip HasKind found said
kinds_said files [] [] z = tt
kinds_said files (x ∷ found) (y ∷ said) z = (sym (ap (λ (w : Said). w.kind) (z.0).is), kinds_said files found said z.1)
kinds_said files _ _ z = absurd z

pub kind_at : (found : List store.Item) (said : List Said) (i : ℕ) (item : store.Item) → AllZip HasKind found said → slice_get found i ≡ Some item → kind_of item.kind ≡ (item_at said i).kind
kind_at [] said i item z e = cc
kind_at (x ∷ found) [] i item z e = absurd z
kind_at (x ∷ found) (y ∷ said) zero item z e = let q : x ≡ item = cc in sym (ap (λ (w : store.Item). kind_of w.kind) q) ∙ z.0
kind_at (x ∷ found) (y ∷ said) (suc i) item z e = kind_at found said i item z.1 e
