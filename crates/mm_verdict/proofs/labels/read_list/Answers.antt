use Rattle.std.proofs.{lemmas.{Grind.{common_steps}, Result.{err_from_is_err_and}}, Common.{◌≤◌, length, sym, ap, arith}}
use Rattle.mm_verdict.proofs.lemmas.decoding.{LeftLemmas.{take_one, none_left}, TableLemmas.{starts, ends, goes_on, fails, stops}}
use Rattle.mm_verdict.proofs.labels.read_list.Goals as goal

pub loop-word-init : goal.loop-word-init
loop-word-init c = grind (arith, common_steps, starts) steps 200000

pub returns-then-is_close-clause-ok : goal.returns-then-is_close-clause-ok
returns-then-is_close-clause-ok c view mandatory all is begins =
    let word = c.in-Some.word.now in
    let took = take_one all c.loop-word.words c.next_word.new.self c.loop-word.n word (c.loop-word.invariant.left all begins.left) c.in-Some.ensures in
    ends view c.args.i mandatory all c.loop-word.n c.loop-word.labels.items (c.loop-word.invariant.lists view mandatory all is begins) word took.within took.is (sym c.if-is_close.ensures)

pub returns-then-is_close-clause-behind : goal.returns-then-is_close-clause-behind
returns-then-is_close-clause-behind c all left =
    (take_one all c.loop-word.words c.next_word.new.self c.loop-word.n c.in-Some.word.now (c.loop-word.invariant.left all left) c.in-Some.ensures).left

pub loop-word-preserved : goal.loop-word-preserved
loop-word-preserved c =
    let word = c.in-Some.word.now in
    record {
      count = omega (arith, c.loop-word.invariant.count, ap length c.in-Some.ensures);
      left = λ all left. (take_one all c.loop-word.words c.next_word.new.self c.loop-word.n word (c.loop-word.invariant.left all left) c.in-Some.ensures).left;
      lists = λ view mandatory all is begins.
          let took = take_one all c.loop-word.words c.next_word.new.self c.loop-word.n word (c.loop-word.invariant.left all begins.left) c.in-Some.ensures in
          let read = c.in_ok-read_label.ensures in
          rw c.in_ok-push.ensures.items (goes_on view c.args.i mandatory all c.loop-word.n c.loop-word.labels.items
          (c.loop-word.invariant.lists view mandatory all is begins) word c.in_ok-read_label.field-0 took.within took.is (sym c.if-is_close.ensures)
          (read.ok view is) (read.entry view is));
    }

pub returns-in_err-read_label-clause-err : goal.returns-in_err-read_label-clause-err
returns-in_err-read_label-clause-err c =
    let p = err_from_is_err_and c.from_residual.result c.from_residual.ensures.1 in
    rw (p.1, p.2) (λ view mandatory all is begins.
    let word = c.in-Some.word.now in
    let took = take_one all c.loop-word.words c.next_word.new.self c.loop-word.n word (c.loop-word.invariant.left all begins.left) c.in-Some.ensures in
    fails view c.args.i mandatory all c.loop-word.n c.loop-word.labels.items (c.loop-word.invariant.lists view mandatory all is begins) word _ took.within took.is (sym c.if-is_close.ensures) (c.in_err-read_label.ensures.err view is))

pub returns-clause-err : goal.returns-clause-err
returns-clause-err c view mandatory all is begins =
    let last = none_left all c.loop-word.words c.loop-word.n (c.loop-word.invariant.left all begins.left) c.in_default.ensures.0 in
    let past : length all ≤ c.loop-word.n = omega (arith, last) in
    rw (c.fault_at.ensures, last) (stops view c.args.i mandatory all c.loop-word.n c.loop-word.labels.items (c.loop-word.invariant.lists view mandatory all is begins) past)
