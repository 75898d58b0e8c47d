use Rattle.std.proofs.{Common.{◌≡◌, ◌+◌, ℕ, length, sym, ap, subst, ◌∙◌, arith}, lemmas.Bool.{false≢true}}
use Rattle.mm_keep.{specs.{Language.{Runs.{AreThose}, Told.{IsAxiom}}, Code.Cited.{IsMarked}}, proofs.RunLemmas.{those_skip, those_more}}
use Rattle.mm_keep.proofs.citing.marked_axioms.Goals.{then-marks-k+then-is_axiom+in_ok-push, else-marks-k, else-marks-k-via-then-marks-k+else-is_axiom, else-marks-k-via-else-marks-k}
use Rattle.mm_keep.proofs.citing.marked_axioms.Goals as goal

pub loop-k-preserved : goal.loop-k-preserved
loop-k-preserved c view is =
    let P : ℕ → Type 0 = λ k. IsMarked c.args.marks.now k × IsAxiom view k in
    let those = c.loop-k.invariant view is in
    elim c.if-marks-k.branch [
      | then-marks-k+then-is_axiom+in_ok-push w ↦
          let items = ap (λ v. v.items) w.numbers-is ∙ w.in_ok-push.ensures.items in
          let sound = (w.is_axiom.ensures view is).0 w.if-is_axiom.true in
          subst (AreThose P (c.loop-k.k + 1)) (sym items) (those_more P c.loop-k.k c.loop-k.numbers.items those (w.if-marks-k.true, sound))
      | else-marks-k w ↦
          let items = ap (λ v. v.items) w.numbers-is in
          let not : P c.loop-k.k → ⊥ = λ p. elim w.else-marks-k.branch [
            | else-marks-k-via-then-marks-k+else-is_axiom v ↦ false≢true (sym v.if-is_axiom.false ∙ (v.is_axiom.ensures view is).1 p.1)
            | else-marks-k-via-else-marks-k v ↦ false≢true (sym v.if-marks-k.false ∙ p.0)
          ] in
          subst (AreThose P (c.loop-k.k + 1)) (sym items) (those_skip P c.loop-k.k c.loop-k.numbers.items those not)
    ]

pub returns : goal.returns
returns c view is =
    let e : c.loop-k.k ≡ length c.args.marks.now = omega (arith, c.loop-k-test.false, c.loop-k.auto.k-end) in
    subst (λ n. AreThose (λ k. IsMarked c.args.marks.now k × IsAxiom view k) n c.loop-k.numbers.items) e (c.loop-k.invariant view is)
