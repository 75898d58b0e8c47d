use Rattle.std.proofs.{Common.{◌≡◌, Some, get_or, slice_get, sym, ◌∙◌, subst, arith}, Math.Decide.{dec_lt}, lemmas.Option.{same_Some, slice_get-get_or}}
use Rattle.mm_proof.specs.Code.TwoTheorems.{IsUnnamed}
use Rattle.mm_proof.proofs.view.may_name_any.Goals as goal

pub loop-k-init : goal.loop-k-init
loop-k-init c said says place m less got = absurd (omega (arith, less))

pub loop-k-preserved : goal.loop-k-preserved
loop-k-preserved c said says place m less got = elim (dec_lt place c.loop-k.k) [
  | yes a ↦ c.loop-k.invariant said says place m a got
  | no a ↦
      let k = c.loop-k.k in
      let changed = c.args.changed.now in
      let here : place ≡ k = omega (arith, less, a) in
      let same = same_Some (get_or changed k 0) m (sym (slice_get-get_or changed k 0 (omega arith)) ∙ subst (λ n. slice_get changed n ≡ Some m) here got) in
      subst (λ n. IsUnnamed c.args.two said.proof n) same (c.may_name.ensures said says c.if-may_name.false)
]

pub returns : goal.returns
returns c said says none place m less got = c.loop-k.invariant said says place m (omega (arith, less, c.loop-k-test.false)) got
