-- What a label means at an item, by the number of the item that has the label.
use Rattle.std.proofs.lemmas.{Grind.{common_steps}, Bool.{false≢true, false_from_ne_true, or_cases, and_parts}, List.{take-take, drop-map, take-map, length-take-le}, Option.{slice_get_within}}
use Rattle.std.proofs.lemmas.Slice.Eq.{bytes_eq-Decides}
use Rattle.std.proofs.Common.{◌≡◌, ℕ, suc, ◌<◌, ◌≤◌, Bool, true, false, cond, Option, Some, List, [], length, take, drop, slice_get, bytes_eq, sym, ◌∙◌, ap, subst, arith, option_to_list}
use Rattle.mm_frame.proofs.lemmas.{lists.Members.{get_taken, in_get}, scope.{SoundItems.{split_at, resolve_meaning, no_item_unknown}, TableLemmas.{label_first}, BlockLemmas.{stays_of}}}
use Rattle.mm_frame.proofs.lemmas.{pairs.ActivePairLemmas.{expression_at_number}, frames.{HypothesisNumbers.{last_there}, FrameNumbers.{kept_front, shown_kept, shown_there, shown_before}}}
use Rattle.mm_frame.{proofs.lemmas.base.BaseLemmas.{kept_are_sound}, specs.Language.{Scope.{stays}, Sound.{sound_items}, Framing.{meaning, resolve}, Marks.{Mark}}}
use Rattle.mm_frame.specs.{Language.{Base.{BaseView, before, said_at, is_sound_at, is_framed_at}, Resolving.{IsCarrier, IsLabelOf, Resolves}}, Code.BlockMarks.{stays_by, block_marks}}
use Rattle.mm_frame.specs.Code.{LastItems.{carries}, KeptBase.{find_in}}
use Rattle.mm_machine.specs.Language.Frame.{Unknown}
use Rattle.mm_statement.specs.Language.Item.{Said, is_labelled, is_assertion, has, labels_of}
use Rattle.mm_frame.specs.declared.base.Resolved.TheVariants as answers

-- an item that carries a label has it
label_in : (b : Bool) (own : Option (List ℕ)) (label : List ℕ) → has (cond b (option_to_list own) []) label ≡ true → (b ≡ true) × (own ≡ Some label)
label_in true (Some l) label t = grind (arith, common_steps, or_cases (bytes_eq label l) false t, bytes_eq-Decides label l, false≢true) steps 200000
label_in _ _ label t = absurd (false≢true t)

-- the item with the label, and what the label means at another after it
pub record IsFound (base : BaseView) (i : ℕ) (label : List ℕ) (j : ℕ) : Type 0 where
  pub labels : IsLabelOf base i j label
  pub there : slice_get (before base i) j ≡ Some (said_at base j)
  pub front : take j (before base i) ≡ before base j
  pub means : resolve (before base i) label ≡ meaning (before base i) (before base j) (said_at base j) (drop (suc j) (before base i))

-- what carries a label among the sound items is sound, and has it
pub carrier_at : (base : BaseView) (label : List ℕ) (n : ℕ) (x : Said) → slice_get (sound_items base) n ≡ Some x → carries label x ≡ true → IsCarrier base label n
carrier_at base label n x g t = grind (arith, common_steps, label_in (is_labelled x.kind) x.label label t, shown_kept base n x g (label_in (is_labelled x.kind) x.label label t).0) steps 200000

carried : (base : BaseView) (label : List ℕ) (j : ℕ) → IsCarrier base label j → has (labels_of (said_at base j)) label ≡ true
carried base label j c = grind (arith, common_steps, and_parts, bytes_eq-Decides) steps 200000

-- it is the item that is found by its label
pub carrier_found : (base : BaseView) (label : List ℕ) (j : ℕ) → IsCarrier base label j → find_in base label ≡ Some j
carrier_found base label j c =
    let items = sound_items base in
    let item = said_at base j in
    let there = shown_there base j c.shown in
    let w = slice_get_within items j item there in
    label_first items (kept_are_sound base) label (take j items) item (drop (suc j) items) (split_at items j item there) (carried base label j c) ∙ ap Some (length-take-le j items (omega arith))

pub found_carrier : (base : BaseView) (label : List ℕ) (j : ℕ) → find_in base label ≡ Some j → IsCarrier base label j
found_carrier base label j e = let r = last_there (carries label) (sound_items base) j e in carrier_at base label j r.0 r.1 r.2

pub is_found : (base : BaseView) (i : ℕ) (label : List ℕ) (j : ℕ) → IsCarrier base label j → j < i → IsFound base i label j
is_found base i label j c l =
    let whole = before base i in
    let item = said_at base j in
    let there = shown_before base i j l c.shown in
    let front : take j whole ≡ before base j = ap (take j) (sym (kept_front base i)) ∙ take-take j i (sound_items base) (omega arith) ∙ kept_front base j in
    record {
      labels = record { earlier = l; carrier = c };
      there = there;
      front = front;
      means = resolve_meaning whole (take j whole) item (drop (suc j) whole) label (kept_are_sound (take i base)) (split_at whole j item there) (carried base label j c) ∙ ap (λ w. meaning whole w item (drop (suc j) whole)) front;
    }

-- the label of an assertion
pub assertion_means : (base : BaseView) (i : ℕ) (label : List ℕ) (j : ℕ) → IsCarrier base label j → j < i → is_framed_at base j ≡ true → Resolves base i label (answers.Assertion j)
assertion_means base i label j e l t = grind (arith, common_steps, is_found base i label j e l, and_parts (is_sound_at base j) (is_assertion (said_at base j).kind) t) steps 200000

-- activity by what the items do to the blocks
pub active_by : (base : BaseView) (marks : List Mark) (i j : ℕ) → marks ≡ block_marks (sound_items base) → stays_by (drop (suc j) (take i marks)) ≡ stays (drop (suc j) (before base i))
active_by base marks i j m = grind (arith, common_steps, stays_of (drop (suc j) (take i (sound_items base))), kept_front base i, take-map, drop-map) steps 200000

pub active_means : (base : BaseView) (i : ℕ) (label : List ℕ) (j : ℕ) (marks : List Mark) → marks ≡ block_marks (sound_items base)
    → IsCarrier base label j → j < i → is_framed_at base j ≡ false → stays_by (drop (suc j) (take i marks)) ≡ true
    → Resolves base i label (answers.Hypothesis j)
active_means base i label j marks m e l t a =
    grind (arith, common_steps, active_by, and_parts, expression_at_number, and_parts, is_found, kept_are_sound) steps 500000

pub inactive_means : (base : BaseView) (i : ℕ) (label : List ℕ) (j : ℕ) (marks : List Mark) → marks ≡ block_marks (sound_items base)
    → IsCarrier base label j → j < i → is_framed_at base j ≡ false → stays_by (drop (suc j) (take i marks)) ≡ false → Resolves base i label answers.Inactive
inactive_means base i label j marks m e l t a = grind (arith, common_steps, and_parts, is_found base i label j e l, active_by base marks i j m) steps 200000

-- no item before this one has the label
none_before : (base : BaseView) (i : ℕ) (label : List ℕ) → ((n : ℕ) (x : Said) → n < i → slice_get (sound_items base) n ≡ Some x → carries label x ≡ true → ⊥) → resolve (before base i) label ≡ Unknown
none_before base i label h = no_item_unknown (before base i) label (λ x k. false_from_ne_true (carries label x) (λ t.
    let g = in_get x (before base i) k in
    let r = get_taken (sound_items base) i g.0 x (subst (λ w. slice_get w g.0 ≡ Some x) (sym (kept_front base i)) g.1) in
    h g.0 x r.0 r.1 t))

-- the one sound item that has the label comes no earlier
pub later_means : (base : BaseView) (i : ℕ) (label : List ℕ) (j : ℕ) → IsCarrier base label j → i ≤ j → Resolves base i label answers.Unknown
later_means base i label j e l = none_before base i label (λ n x m g t.
    let items = sound_items base in
    let w = slice_get_within items n x g in
    let z = length-take-le n items (omega arith) in
    let q : Some (length (take n items)) ≡ Some j = sym (label_first items (kept_are_sound base) label (take n items) x (drop (suc n) items) (split_at items n x g) t) ∙ carrier_found base label j e in
    let s : length (take n items) ≡ j = cc in
    absurd (omega arith))

-- no sound item has the label
pub unknown_means : (base : BaseView) (i : ℕ) (label : List ℕ) → ((j : ℕ) → IsCarrier base label j → ⊥) → Resolves base i label answers.Unknown
unknown_means base i label h = none_before base i label (λ n x m g t. h n (carrier_at base label n x g t))
