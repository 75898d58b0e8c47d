use Rattle.std.proofs.Common.{length, arith, length-take-le}
use Rattle.mm_text.proofs.SkipLemmas.{none_before}
use Rattle.mm_text.proofs.skipping.dollarless_len.Goals as goal

pub returns-in-Some-clause-none : goal.returns-in-Some-clause-none
returns-in-Some-clause-none c = grind (arith, length-take-le c.in-Some.at c.args.bytes.now (omega (arith, c.in-Some.ensures.0.high)), none_before) steps 200000

pub returns-in-None-clause-none : goal.returns-in-None-clause-none
returns-in-None-clause-none c = none_before (length c.args.bytes.now) c.args.bytes.now (omega arith) (λ k lt. c.in-None.ensures k (omega arith) lt)
