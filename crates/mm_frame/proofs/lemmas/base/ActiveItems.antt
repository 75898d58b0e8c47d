-- Which items are active at an item of a base, and what the labels of hypotheses mean there.
use Rattle.std.proofs.lemmas.{Grind.{common_steps}, Bool.{false≢true}, List.{drop-take, drop-map, map-append}}
use Rattle.std.proofs.Common.{◌≡◌, ◌↔◌, ℕ, suc, ◌+◌, ◌-◌, ◌<◌, Bool, true, false, ◌&&◌, Option, Some, None, List, [], ◌∷◌, ◌++◌, take, drop, slice_get, append-nil, append_assoc, refl, sym, ◌∙◌, ap}
use Rattle.std.proofs.Common.{arith}
use Rattle.mm_statement.specs.Language.Item.{BlockStart, BlockEnd, Said}
use Rattle.mm_frame.specs.{declared.FrameNumber.{FrameNumber, TheVariants.{F06, F07}}, Code.BlockMarks.{block_marks, stays_by}, Language.{Numbered.{IsActive, between}, Scope.{stays}}}
use Rattle.mm_frame.specs.Language.{Sound.{fault, judged, line_holds, sound_items_after}, Base.{BaseView, before, said_at, is_framed_at}, Laws.{is_active_at}, Marks.{Neither, mark_of}}
use Rattle.mm_frame.{specs.Language.{Resolving.{IsLabelOf}, Framing.{expression, resolve}}, proofs.lemmas.base.ResolvingLemmas.{active_by, active_means, inactive_means}}
use Rattle.mm_frame.proofs.lemmas.{faults.FoundFaults.{found_fault}, scope.{Activity.{active_by_blocks}, BlockLemmas.{stays_of}}}
use Rattle.mm_machine.specs.Language.Frame.{Hypothesis, Inactive}

-- what the label of a hypothesis means
pub active_is_meant : (base : BaseView) (i j : ℕ) (label : List ℕ) → IsLabelOf base i j label → is_framed_at base j ≡ false → is_active_at base i j ≡ true → resolve (before base i) label ≡ Hypothesis (expression (before base j) (said_at base j))
active_is_meant base i j label is hypothesis active = grind (arith, common_steps, active_by, active_means) steps 200000

pub ended_is_meant : (base : BaseView) (i j : ℕ) (label : List ℕ) → IsLabelOf base i j label → is_framed_at base j ≡ false → is_active_at base i j ≡ false → resolve (before base i) label ≡ Inactive
ended_is_meant base i j label is hypothesis ended = grind (arith, common_steps, active_by, inactive_means) steps 200000

-- a beginning or an end of a block has no fault
and_false : (b : Bool) → (b && false) ≡ false
and_false true = refl
and_false false = refl

start_line : (front : List Said) (x : Said) (w : ℕ) (n : FrameNumber) → line_holds front (record x { kind = BlockStart }) w n ≡ false
start_line front x w F06 = and_false _
start_line front x w F07 = and_false _
start_line front x w _ = refl

end_line : (front : List Said) (x : Said) (w : ℕ) (n : FrameNumber) → line_holds front (record x { kind = BlockEnd }) w n ≡ false
end_line front x w F06 = and_false _
end_line front x w F07 = and_false _
end_line front x w _ = refl

faulty_neither : (front : List Said) (x : Said) (w : ℕ) (n : FrameNumber) → line_holds front x w n ≡ true → mark_of x.kind ≡ Neither
faulty_neither front x w n holds = grind (arith, common_steps, end_line, false≢true, start_line) steps 200000

-- so what takes the place of an item does the same to the blocks
judged_mark : (front : List Said) (x : Said) (f : Option (ℕ × FrameNumber)) → fault front x ≡ f → mark_of (judged x f).kind ≡ mark_of x.kind
judged_mark front x None is = refl
judged_mark front x (Some at) is = sym (faulty_neither front x at.0 at.1 (found_fault front x at.0 at.1 is).holds)

marks_after : (front items : List Said) → block_marks (sound_items_after front items) ≡ block_marks front ++ block_marks items
marks_after front [] = sym (append-nil (block_marks front))
marks_after front (x ∷ items) =
    let y = judged x (fault front x) in
    marks_after (front ++ y ∷ []) items
    ∙ ap (λ marks. marks ++ block_marks items) (map-append (λ (item : Said). mark_of item.kind) front (y ∷ []) ∙ ap (λ mark. block_marks front ++ mark ∷ []) (judged_mark front x (fault front x) refl))
    ∙ append_assoc (block_marks front) (mark_of x.kind ∷ []) (block_marks items)

-- activity among the items as they are said
stays_same : (xs ys : List Said) → block_marks xs ≡ block_marks ys → stays xs ≡ stays ys
stays_same xs ys same = stays_of xs ∙ ap stays_by same ∙ sym (stays_of ys)

between_items : (xs : List Said) (j i : ℕ) → j < i → drop (suc j) (take i xs) ≡ between xs j i
between_items xs j i later = grind (arith, common_steps, drop-take (j + 1) (i - (j + 1)) xs) steps 200000

stays_between : (base : BaseView) (i j : ℕ) → j < i → is_active_at base i j ≡ stays (between base j i)
stays_between base i j later =
    let mark = λ (item : Said). mark_of item.kind in
    let front = take i base in
    stays_same (drop (suc j) (before base i)) (drop (suc j) front)
    (sym (drop-map mark (suc j) (before base i)) ∙ ap (drop (suc j)) (marks_after [] front) ∙ drop-map mark (suc j) front)
    ∙ ap stays (between_items base j i later)

pub active_in_blocks : (base : BaseView) (i j : ℕ) (x y : Said) → stays base ≡ true → slice_get base j ≡ Some x → slice_get base i ≡ Some y
    → mark_of x.kind ≡ Neither → mark_of y.kind ≡ Neither → j < i → (is_active_at base i j ≡ true) ↔ IsActive base j i
active_in_blocks base i j x y whole there here mine yours later = grind (arith, common_steps, active_by_blocks, stays_between) steps 200000
