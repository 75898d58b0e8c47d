use Rattle.std.proofs.{lemmas.Grind.{common_steps}, Common.{◌+◌, ap, ◌∙◌, drop, slice_get, arith}}
use Rattle.mm_keep.proofs.CitedWords.{drop_more, get_behind, next_left}
use Rattle.mm_keep.proofs.cited.word_behind.Goals as goal

pub loop-i-preserved : goal.loop-i-preserved
loop-i-preserved c = grind (arith, common_steps, drop_more c.args.words.now c.loop-i._i 1 (c.loop-i._i + 1) (omega arith), next_left) steps 200000

pub returns : goal.returns
returns c =
    let n = next_left (λ word. word.now) c.next_word-2.result c.loop-i.words c.next_word-2.new.self c.next_word-2.ensures in
    record {
      word = n.1 ∙ ap (λ ws. slice_get ws 0) c.loop-i.invariant ∙ get_behind c.args.words.now c.loop-i._i 0 c.args.count (omega (arith, c.loop-i-test.false, c.loop-i.auto._i-end));
      left = n.0 ∙ ap (drop 1) c.loop-i.invariant ∙ drop_more c.args.words.now c.loop-i._i 1 (c.args.count + 1) (omega (arith, c.loop-i-test.false, c.loop-i.auto._i-end));
    }
