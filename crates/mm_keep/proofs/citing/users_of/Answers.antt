use Rattle.std.proofs.{Common.{◌≡◌, ◌+◌, ℕ, length, sym, ap, subst, ◌∙◌, arith}, lemmas.Bool.{false≢true}}
use Rattle.mm_keep.{specs.Language.{Citations.{CitesItem}, Runs.{AreThose}}, proofs.{RunLemmas.{those_skip, those_more}, citing.users_of.Goals.{then-cites_label+in_ok-push, else-cites_label}}}
use Rattle.mm_keep.proofs.citing.users_of.Goals as goal

pub loop-j-preserved : goal.loop-j-preserved
loop-j-preserved c names view is are label =
    let P : ℕ → Type 0 = λ k. CitesItem view k c.args.i in
    let those = c.loop-j.invariant names view is are label in
    let cited = c.cites_label.ensures names view is are c.args.i label in
    elim c.if-cites_label.branch [
      | then-cites_label+in_ok-push w ↦
          let items = ap (λ v. v.items) w.numbers-is ∙ w.in_ok-push.ensures.items in
          subst (AreThose P (c.loop-j.j + 1)) (sym items) (those_more P c.loop-j.j c.loop-j.numbers.items those (cited.0 w.if-cites_label.true))
      | else-cites_label w ↦
          let items = ap (λ v. v.items) w.numbers-is in
          subst (AreThose P (c.loop-j.j + 1)) (sym items) (those_skip P c.loop-j.j c.loop-j.numbers.items those (λ one. false≢true (sym w.if-cites_label.false ∙ cited.1 one)))
    ]

pub returns : goal.returns
returns c names view is are label =
    let count = c.count-j-end.ensures.count view (names, is.read_in.base) in
    let e : c.loop-j.j ≡ length view = omega (arith, c.loop-j-test.false, c.loop-j.auto.j-end, count, label.within) in
    subst (λ n. AreThose (λ k. CitesItem view k c.args.i) n c.loop-j.numbers.items) e (c.loop-j.invariant names view is are label)
