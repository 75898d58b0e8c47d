use Rattle.std.proofs.{Common.{◌≡◌, ◌+◌, ◌-◌, List, Bool, length, sym, subst, ◌∙◌, arith}, lemmas.Bool.{false≢true}}
use Rattle.mm_keep.{specs.{Language.Citations.{CitesItem}, Code.Cited.{IsMarked, MarksMore}}, proofs.ChainLemmas.{AreBehind, behind_none, behind_skip, behind_more, behind_all}}
use Rattle.mm_keep.proofs.citing.mark_behind.Goals.{then-marks-j, else-marks-j}
use Rattle.mm_keep.proofs.citing.mark_behind.Goals as goal

pub loop-n-init : goal.loop-n-init
loop-n-init c names view is are front e = behind_none view c.args.marks.now front (omega (arith, e))

pub loop-n-preserved : goal.loop-n-preserved
loop-n-preserved c names view is are front e =
    let j = length c.loop-n.marks - 1 - c.loop-n.n in
    let same : j ≡ front = omega (arith, e, c.loop-n.auto.marks) in
    let behind = c.loop-n.invariant names view is are (front + 1) (omega (arith, e)) in
    elim c.if-marks-j.branch [
      | then-marks-j w ↦
          let more = subst (MarksMore (CitesItem view j) c.loop-n.marks) (sym w.marks-is) (w.mark_cites.ensures names view is are) in
          behind_more view c.args.marks.now c.loop-n.marks c.if-marks-j.marks front (front + 1) (omega arith) behind (subst (IsMarked c.loop-n.marks) same w.if-marks-j.true)
          (subst (λ i. MarksMore (CitesItem view i) c.loop-n.marks c.if-marks-j.marks) same more)
      | else-marks-j w ↦
          subst (λ (marks : List Bool). AreBehind view c.args.marks.now marks front) (sym w.marks-is)
          (behind_skip view c.args.marks.now c.loop-n.marks front (front + 1) (omega arith) behind (λ m. false≢true (sym w.if-marks-j.false ∙ subst (IsMarked c.loop-n.marks) (sym same) m)))
    ]

pub returns : goal.returns
returns c names view is are = behind_all view c.args.marks.now c.loop-n.marks (c.loop-n.invariant names view is are 0 (omega (arith, c.loop-n-test.false, c.loop-n.auto.n-end)))
