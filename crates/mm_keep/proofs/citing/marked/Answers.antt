use Rattle.std.proofs.{lemmas.{Grind.{common_steps}, Bool.{false≢true}}, Common.{◌+◌, sym, ap, ◌∙◌, subst, arith}}
use Rattle.mm_keep.{specs.{Language.Runs.{AreThose}, Code.Cited.{IsMarked}}, proofs.{RunLemmas.{those_skip, those_more}, citing.marked.Goals.{then-marks-k+in_ok-push, else-marks-k}}}
use Rattle.mm_keep.proofs.citing.marked.Goals as goal

pub loop-k-preserved : goal.loop-k-preserved
loop-k-preserved c = elim c.if-marks-k.branch [
  | then-marks-k+in_ok-push w ↦ grind (arith, common_steps, those_more (IsMarked c.args.marks.now) c.loop-k.k c.loop-k.numbers.items c.loop-k.invariant w.if-marks-k.true) steps 200000
  | else-marks-k w ↦
      let items = ap (λ v. v.items) w.numbers-is in
      subst (AreThose (IsMarked c.args.marks.now) (c.loop-k.k + 1)) (sym items) (those_skip (IsMarked c.args.marks.now) c.loop-k.k c.loop-k.numbers.items c.loop-k.invariant (λ m. false≢true (sym w.if-marks-k.false ∙ m)))
]
