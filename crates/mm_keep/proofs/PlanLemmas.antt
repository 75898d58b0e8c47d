-- What a plan says of an item, and what is carried by it.
use Rattle.std.proofs.{Common.{rules, arith, ◌≡◌, ℕ, ◌+◌, ◌<◌, get_or, true, false, Option, Some, None, List, [], ◌∷◌, ◌++◌, length, sym, ◌∙◌, ap, subst}, lemmas.Grind.{common_steps}}
use Rattle.std.proofs.{lemmas.{Bool.{false≢true}, Option.{none-some, same_Some}, List.{get_or_append_left}}, Math.Seq.{get_or-append_seam}}
use native.Mathlib.Decide.{dec_lt}
use Rattle.mm_proof.specs.{mm_store.Language.FilesView.{FilesView}, mm_frame.{Language.{Base.{BaseView, is_proof_at, is_shown_at}, Answering.{IsBaseBy}}, declared.base.Base.{Base}}}
use Rattle.mm_proof.specs.{Language.{BaseMarks.{ItemMark, MarksView, IsMark, mark_at}, ViewLaws.{SameViewSameVerdict, SameViewSameCites}}, mm_verdict.Language.DecodingLaws.{LabelsAreOwn}}
use Rattle.mm_proof.specs.mm_verdict.Language.View.{view_at, AreSameViews}
use Rattle.mm_keep.specs.{Code.{KeptCheck.{Kept}, KeptSession.{IsKeptAt}, Planned.{AreBothRead, AreMarksBy, HasItemBothRead, IsPlanned, CanCarry, kept_by}}, Language.Runs.{HasSameView}}

-- a theorem is a sound item with a label
pub shown : (base : BaseView) (i : ℕ) → is_proof_at base i ≡ true → is_shown_at base i ≡ true
shown base i e = grind (arith, common_steps, false≢true) steps 200000

-- the theorem whose view it had is the one that the mark names
pub marked : (base copy : BaseView) (j : ℕ) (mark : ItemMark) → IsMark base copy j mark → (i : ℕ) → HasSameView base copy i j → mark.old ≡ Some i
marked base copy j mark is i same = (is.old_is i).1 (record { within = same.within; was = shown base i same.was; is = shown copy j same.is; label = same.label })

pub plans_unmarked : (base copy : BaseView) (j : ℕ) (mark : ItemMark) → IsMark base copy j mark → mark.old ≡ None → IsPlanned base copy j None
plans_unmarked base copy j mark is e had = none-some had.0 (sym e ∙ marked base copy j mark is had.0 had.1)

one_had : (base copy : BaseView) (j : ℕ) (mark : ItemMark) → IsMark base copy j mark → (i : ℕ) → mark.old ≡ Some i → (k : ℕ) → HasSameView base copy k j → k ≡ i
one_had base copy j mark is i e k same = same_Some k i (sym (marked base copy j mark is k same) ∙ e)

pub plans_no_theorem : (base copy : BaseView) (j : ℕ) (mark : ItemMark) → IsMark base copy j mark → (i : ℕ) → mark.old ≡ Some i → is_proof_at base i ≡ false → IsPlanned base copy j None
plans_no_theorem base copy j mark is i e f had = false≢true (sym f ∙ ap (is_proof_at base) (sym (one_had base copy j mark is i e had.0 had.1)) ∙ had.1.was)

pub plans_changed : (base copy : BaseView) (j : ℕ) (mark : ItemMark) → IsMark base copy j mark → (i : ℕ) → mark.old ≡ Some i → ¬ AreSameViews (view_at base i) (view_at copy j) → IsPlanned base copy j None
plans_changed base copy j mark is i e not had = not (subst (λ k. AreSameViews (view_at base k) (view_at copy j)) (one_had base copy j mark is i e had.0 had.1) had.1.view)

pub plans_kept : (base copy : BaseView) (j : ℕ) (mark : ItemMark) → IsMark base copy j mark → (i : ℕ) → mark.old ≡ Some i → is_proof_at base i ≡ true
    → is_proof_at copy j ≡ true → AreSameViews (view_at base i) (view_at copy j) → IsPlanned base copy j (Some i)
plans_kept base copy j mark is i e was theorem view = let one = (is.old_is i).0 e in record { within = one.within; was = was; is = theorem; label = one.label; view = view }

-- views of one base have as many items
pub one_count : (names others : List (List ℕ)) (a b : BaseView) (code : Base) → IsBaseBy names a code → IsBaseBy others b code → length a ≡ length b
one_count names others a b code is other = sym is.count ∙ other.count

-- what was checked of a theorem holds of one with an equal view
pub checked_same : SameViewSameVerdict → SameViewSameCites → (base copy : BaseView) (checked : List Kept) (plan : List (Option ℕ))
    (ran : List Kept) → CanCarry base copy checked plan ran → (i j : ℕ) → HasSameView base copy i j
    → (one : Kept) → IsKeptAt base i one → IsKeptAt copy j one
checked_same verdicts cites base copy checked plan ran can i j same None is = absurd (false≢true (sym is ∙ same.was))
checked_same verdicts cites base copy checked plan ran can i j same (Some None) is = absurd is
checked_same verdicts cites base copy checked plan ran can i j same (Some (Some judgement)) is = (
  same.is,
  verdicts base copy i j can.old_labelled can.new_labelled same.view judgement.verdict is.1,
  is.2 ∙ cites base copy i j can.old_labelled can.new_labelled same.view,
)

-- what was checked of one theorem is kept by one at most
pub kept_by_one : LabelsAreOwn → (base copy : BaseView) (checked : List Kept) (plan : List (Option ℕ)) (ran : List Kept)
    → CanCarry base copy checked plan ran → (i j k : ℕ) → HasSameView base copy i j → HasSameView base copy i k → j ≡ k
kept_by_one own base copy checked plan ran can i j k a b = grind (arith, shown copy j a.is, shown copy k b.is) steps 200000

-- what is marked of an item of the new base
pub mark_here : (names : List (List ℕ)) (files : FilesView) (old new : Base) (marks : MarksView) (j : ℕ) → HasItemBothRead names files old new j → AreMarksBy names old new marks → (base copy : BaseView) → AreBothRead names files old new base copy
    → IsMark base copy j (mark_at marks j)
mark_here names files old new marks j has are base copy both = search (rules, one_count)

-- what is planned for one item more
pub planned_more : (P : ℕ → Option ℕ → Type 0) (plan all : List (Option ℕ)) (from : Option ℕ) (count : ℕ) → all ≡ plan ++ from ∷ [] → length plan ≡ count → ((k : ℕ) → k < count → P k (kept_by plan k)) → P count from
    → (k : ℕ) → k < count + 1 → P k (kept_by all k)
planned_more P plan all from count e long each last k l = elim (dec_lt k count) [
  | yes m ↦ subst (P k) (sym (ap (λ w. get_or w k None) e ∙ get_or_append_left plan (from ∷ []) None k (omega (arith, long, m)))) (each k m)
  | no n ↦
      let here : count ≡ k = omega (arith, l, n) in
      let is = ap (λ w. get_or w count None) e ∙ ap (λ m. get_or (plan ++ from ∷ []) m None) (sym long) ∙ get_or-append_seam plan from [] None in
      subst (λ m. P m (kept_by all m)) here (subst (P count) (sym is) last)
]
