use Rattle.std.proofs.Common.{◌≡◌, map, take}
use Rattle.mm_frame.specs.declared.base.Resolved.TheVariants as answers
use Rattle.mm_verdict.proofs.reading.hypotheses.Given as goal

abbrev pub invariant-loop-number : goal.invariant-loop-number
invariant-loop-number l = l.labels.items ≡ map answers.Hypothesis (take l.number-index l.mandatory)
