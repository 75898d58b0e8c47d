use Rattle.std.proofs.{Common.{◌∙◌, ◌||◌, ◌∷◌, [], ap, sym, arith, take_all, take, get_or, if◌then◌else◌, false, Some, Bool}, lemmas.List.Folds.{list_any-append}, Math.Bool.{or-false}}
use Rattle.mm_verdict.{specs.Code.Cited.{cited_item, is_item, is_listed, masked}, proofs.lemmas.machine.MarkedLabels.{masked_count, masked_next}}
use Rattle.mm_frame.specs.declared.base.Resolved.{Resolved}
use Rattle.mm_frame.specs.declared.base.Resolved.TheVariants as answers
use Rattle.mm_verdict.proofs.citing.named.Goals as goal

pub loop-k-init : goal.loop-k-init
loop-k-init c = c.forget.ensures

pub returns : goal.returns
returns c j e =
    c.loop-k.invariant j e
    ∙ ap (λ labels. is_listed labels j) (take_all c.loop-k.k (masked c.args.labels.now c.args.used.now) (omega (arith, c.loop-k-test.false, masked_count c.args.labels.now c.args.used.now)))

pub loop-k-preserved : goal.loop-k-preserved
loop-k-preserved c j e =
    let labels = c.args.labels.now in
    let used = c.args.used.now in
    let k = c.loop-k.k in
    let front = take k (masked labels used) in
    let label = if get_or used k false then get_or labels k (answers.Hypothesis 0) else answers.Unknown in
    let names : Resolved → Bool = λ l. is_item (cited_item (Some l)) j in
    c.in_ok-mark.ensures j
    ∙ ap (λ b. b || names label) (c.loop-k.invariant j e)
    ∙ sym (ap (λ ls. is_listed ls j) (masked_next labels used k (answers.Hypothesis 0) false c.loop-k-test.true c.requires)
    ∙ list_any-append names front (label ∷ [])
    ∙ ap (λ b. is_listed front j || b) (or-false (names label)))
