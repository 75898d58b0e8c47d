use Rattle.std.proofs.{Common.{◌≡◌, sym, ◌∙◌, subst}, lemmas.Bool.{false≢true}}
use Rattle.mm_frame.specs.Language.Base.{AreHypotheses, frame_at}
use Rattle.mm_proof.proofs.compared.same_mandatory.Goals.{then-told, else-told}
use Rattle.mm_proof.proofs.compared.same_mandatory.Goals as goal

pub returns-then-same_mandatory_hypotheses : goal.returns-then-same_mandatory_hypotheses
returns-then-same_mandatory_hypotheses c names base copy f g was is =
    let i = c.args.i in
    let j = c.args.j in
    let mine = subst (AreHypotheses base i) (sym c.deref.ensures.value) (c.in-Some-Some.ensures.means base (names, f)) in
    let yours = subst (AreHypotheses copy j) (sym c.deref-2.ensures.value) (c.in-Some-Some.ensures'.means copy (names, g)) in
    let same : (frame_at base i).hypotheses ≡ (frame_at copy j).hypotheses = elim c.if-told.branch [
      | then-told w ↦ sym mine.are ∙ c.are_marked-told.ensures w.if-told.true c.args.old.now c.args.new.now c.requires names base copy f g ∙ yours.are
      | else-told w ↦ (w.same_mandatory_hypotheses.ensures names base copy f g was is).0 (sym w.value-is ∙ c.if-same_mandatory_hypotheses.true)
    ] in
    let pairs = c.same_mandatory_pairs.ensures names base copy f g was is same in
    (λ e. record { hypotheses = same; pairs = pairs.0 e }, λ s. pairs.1 s.pairs)

pub returns-else-same_mandatory_hypotheses : goal.returns-else-same_mandatory_hypotheses
returns-else-same_mandatory_hypotheses c names base copy f g was is = (
  λ e. absurd (false≢true (sym c.if-same_mandatory_hypotheses.false ∙ e)),
  λ s. elim c.if-told.branch [
    | then-told w ↦ w.value-is ∙ w.if-told.true
    | else-told w ↦ w.value-is ∙ (w.same_mandatory_hypotheses.ensures names base copy f g was is).1 s.hypotheses
  ],
)
