use Rattle.std.proofs.Common.{decimal}
use Rattle.mm_script.proofs.{SplitLemmas.{not_inside}, LineLemmas.{cut_so, number_space}}
use Rattle.mm_script.proofs.line.two_numbers.Goals as goal

pub returns-in_err-first-clause-none : goal.returns-in_err-first-clause-none
returns-in_err-first-clause-none c = λ none n m h k is. not_inside 32 c.args.bytes.now (decimal n) (decimal m) (c.cut_at_space.ensures.none c.in_err-first.was) is

pub returns-in_err-number-clause-none : goal.returns-in_err-number-clause-none
returns-in_err-number-clause-none c = λ none n m h k is.
    c.number.ensures.none c.in_err-number.was n h (cut_so c.args.bytes.now c.in_ok-first.first.now c.in_ok-first.second.now (decimal n) (decimal m) c.in_ok-first.ensures.some (number_space n h) is).0

pub returns-in_err-number-2-clause-none : goal.returns-in_err-number-2-clause-none
returns-in_err-number-2-clause-none c = λ none n m h k is.
    c.number-2.ensures.none c.in_err-number-2.was m k (cut_so c.args.bytes.now c.in_ok-first.first.now c.in_ok-first.second.now (decimal n) (decimal m) c.in_ok-first.ensures.some (number_space n h) is).1
