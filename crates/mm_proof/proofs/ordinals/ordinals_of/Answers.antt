use Rattle.std.proofs.Common.{◌≡◌, ◌+◌, ℕ, suc, List, length, sym, ◌∙◌, ap, subst, arith}
use Rattle.mm_frame.specs.Language.{Base.{BaseView}, Answering.{IsBase}}
use Rattle.mm_proof.{specs.Code.InStep.{AreOrdinals}, proofs.{InStepLemmas.{ordinals_more, ordinal_shown, ordinal_hidden}, ordinals.ordinals_of.Goals.{then-is_labelled, else-is_labelled}}}
use Rattle.mm_proof.proofs.ordinals.ordinals_of.Goals as goal

pub loop-n-preserved : goal.loop-n-preserved
loop-n-preserved c =
    let n = c.loop-n.n in
    let more : (view : BaseView) → IsBase view c.args.base.now → AreOrdinals view (n + 1) c.push.new.self.items = λ view is. (
    let front = c.loop-n.invariant.are view is in
    subst (λ (ns : List ℕ). AreOrdinals view (n + 1) ns) (sym c.in_ok-push.ensures.items) (ordinals_more view n c.loop-n.numbers.items c.in_ok-narrow.field-0 front.0 (c.in_ok-narrow.ensures.same ∙ front.1))) in
    elim c.if-is_labelled.branch [
      | then-is_labelled w ↦ record {
        few = (let few = c.loop-n.invariant.few in let next = w.ordinal-is in omega (arith, few, next));
        are = λ view is. (more view is, w.ordinal-is ∙ ap (λ k. k + 1) (c.loop-n.invariant.are view is).1 ∙ ordinal_shown view n (sym (c.is_labelled.ensures view is) ∙ w.if-is_labelled.true));
      }
      | else-is_labelled w ↦ record {
        few = (let few = c.loop-n.invariant.few in let next = w.ordinal-is in omega (arith, few, next));
        are = λ view is. (more view is, w.ordinal-is ∙ (c.loop-n.invariant.are view is).1 ∙ ordinal_hidden view n (sym (c.is_labelled.ensures view is) ∙ w.if-is_labelled.false));
      }
    ]

pub returns : goal.returns
returns c view is =
    let n = c.loop-n.n in
    let count = c.count-count.ensures.count view is in
    let front = c.loop-n.invariant.are view is in
    let all : n + 1 ≡ suc (length view) = omega (arith, count, c.loop-n.auto.n-end, c.loop-n-test.false) in
    let more = subst (λ (ns : List ℕ). AreOrdinals view (n + 1) ns) (sym c.in_ok-push-2.ensures.items) (ordinals_more view n c.loop-n.numbers.items c.in_ok-narrow-2.field-0 front.0 (c.in_ok-narrow-2.ensures.same ∙ front.1)) in
    subst (λ k. AreOrdinals view k c.push-2.new.self.items) all more
